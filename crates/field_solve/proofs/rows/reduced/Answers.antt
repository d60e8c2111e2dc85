use Rattle.std.proofs.Common.{◌≡◌, ℕ, ◌++◌, take, drop, length, sym, ap, subst, ◌∙◌, slice_index, List}
use Rattle.field_solve.specs.Elimination.{AreCleared}
use Rattle.field_solve.proofs.Lists.{written_back}
use Rattle.field_solve.proofs.Steps.{Combines-same}
use Rattle.field_solve.proofs.rows.reduced.Goals as goal

pub returns : goal.returns
returns c =
    let p = c.args.prime in
    let rows = c.args.rows.now in
    let entries = c.args.sums.entries in
    let combination = c.args.sums.combination in
    let new_entries = c.reduce.new.sums in
    let new_combination = c.reduce.new.combination in
    let a = c.reduce.ensures in
    let w : take entries.len (new_entries ++ drop (length new_entries) entries.items) ≡ new_entries = written_back entries.len entries.items new_entries (c.reduce.auto.sums ∙ c.deref_mut.ensures.len) in
    let v : take combination.len (new_combination ++ drop (length new_combination) combination.items) ≡ new_combination = written_back combination.len combination.items new_combination (c.reduce.auto.combination ∙ c.deref_mut-2.ensures.len) in
    record {
      whole = ap length w ∙ c.reduce.auto.sums ∙ ap length c.deref_mut.ensures.value ∙ c.requires.whole;
      same_length = ap length v ∙ c.reduce.auto.combination ∙ ap length c.deref_mut-2.ensures.value;
      cleared = subst (AreCleared p (length rows) rows) (sym w) a.cleared;
      behind = λ place h. ap (λ (l : List ℕ). slice_index l place) v ∙ a.behind place h ∙ ap (λ (l : List ℕ). slice_index l place) c.deref_mut-2.ensures.value;
      combined = λ poly start combined before.
          Combines-same p poly start new_combination _ new_entries _ (sym v) (sym w)
          (a.combined poly start combined (Combines-same p poly start combination.items _ entries.items _ (sym c.deref_mut-2.ensures.value) (sym c.deref_mut.ensures.value) before));
    }
