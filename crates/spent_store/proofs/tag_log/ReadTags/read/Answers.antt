use Rattle.std.proofs.Common.{◌≡◌, ◌*◌, ◌/◌, ℕ, List, length, vec_len, None, sym, ◌∙◌, ap, subst, arith, rules}
use Rattle.std.specs.List.{concat}
use Rattle.std.specs.Result.{IfErr}
use Rattle.replay_disk.specs.Disk.{IsAtRest, contents_of}
use Rattle.gate_log.specs.Log.{ReadState, ReadingLeaves}
use Rattle.gate_log.specs.Records.{records}
use Rattle.spent_store.specs.Books.{area_of, overfull}
use Rattle.spent_store.specs.Faults.{Refuses}
use Rattle.spent_store.proofs.Cutting.{chunk_count, cut_records}
use Rattle.spent_store.proofs.tag_log.ReadTags.read.Goals as goal

pub returns-in_err-log-clause-objection : goal.returns-in_err-log-clause-objection
returns-in_err-log-clause-objection g c t =
    subst (λ (area : ℕ). IfErr c.from_residual.result (λ fault. Refuses fault (overfull c.args.limit area 32 (contents_of area (g.R.Rack.state c.args.rack.now))))) c.area_of_epoch.ensures.value (search rules)

pub returns-in_err-log-clause-unwritten : goal.returns-in_err-log-clause-unwritten
returns-in_err-log-clause-unwritten g c t =
    subst (λ (area : ℕ). contents_of area (g.R.Rack.state c.read_log.new.rack) ≡ contents_of area (g.R.Rack.state c.args.rack.now)) c.area_of_epoch.ensures.value (c.read_log.ensures.unwritten t)

pub returns-in_err-log-clause-each_moment : goal.returns-in_err-log-clause-each_moment
returns-in_err-log-clause-each_moment g c t =
    subst (λ (area : ℕ). ReadingLeaves area (g.R.Rack.state c.args.rack.now) (g.R.Rack.state c.read_log.new.rack)) c.area_of_epoch.ensures.value (c.read_log.ensures.each_moment t)

pub returns-in_err-tags-clause-unwritten : goal.returns-in_err-tags-clause-unwritten
returns-in_err-tags-clause-unwritten g c t =
    subst (λ (area : ℕ). contents_of area (g.R.Rack.state c.read_log.new.rack) ≡ contents_of area (g.R.Rack.state c.args.rack.now)) c.area_of_epoch.ensures.value (c.read_log.ensures.unwritten t)

pub returns-in_err-tags-clause-each_moment : goal.returns-in_err-tags-clause-each_moment
returns-in_err-tags-clause-each_moment g c t =
    subst (λ (area : ℕ). ReadingLeaves area (g.R.Rack.state c.args.rack.now) (g.R.Rack.state c.read_log.new.rack)) c.area_of_epoch.ensures.value (c.read_log.ensures.each_moment t)

pub returns-clause-unwritten : goal.returns-clause-unwritten
returns-clause-unwritten g c t =
    subst (λ (area : ℕ). contents_of area (g.R.Rack.state c.read_log.new.rack) ≡ contents_of area (g.R.Rack.state c.args.rack.now)) c.area_of_epoch.ensures.value (c.read_log.ensures.unwritten t)

pub returns-clause-each_moment : goal.returns-clause-each_moment
returns-clause-each_moment g c t =
    subst (λ (area : ℕ). ReadingLeaves area (g.R.Rack.state c.args.rack.now) (g.R.Rack.state c.read_log.new.rack)) c.area_of_epoch.ensures.value (c.read_log.ensures.each_moment t)

pub returns-clause-fits : goal.returns-clause-fits
returns-clause-fits g c t =
    subst (λ (area : ℕ). overfull c.args.limit area 32 (contents_of area (g.R.Rack.state c.args.rack.now)) ≡ None) c.area_of_epoch.ensures.value (c.in_ok-log.ensures.fits t)

pub returns-clause-were_read : goal.returns-clause-were_read
returns-clause-were_read g c t =
    let s1 = g.R.Rack.state c.read_log.new.rack in
    let log = c.in_ok-log.log in
    let is = c.in_ok-log.ensures.log in
    let was = c.in_ok-log.ensures.was_read t in
    let area : log.area ≡ area_of c.args.epoch = ap (λ (l : ReadState). l.area) is ∙ c.area_of_epoch.ensures.value in
    let size : log.size ≡ 32 = ap (λ (l : ReadState). l.size) is in
    let joined : log.records ≡ concat (records 32 (contents_of (area_of c.args.epoch) s1))
    = subst (λ (a : ℕ). log.records ≡ concat (records 32 (contents_of a s1))) area (subst (λ (n : ℕ). log.records ≡ concat (records n (contents_of log.area s1))) size was.joined) in
    record {
      log = was;
      area = area;
      rest = subst (λ (a : ℕ). IsAtRest s1.areas a) area was.at_rest;
      tags = sym (c.in_ok-tags.ensures.tags ∙ cut_records 32 (contents_of (area_of c.args.epoch) s1) c.records.result.now (omega arith) (c.records.ensures ∙ joined));
    }

pub invariant_of-result : goal.invariant_of-result
invariant_of-result g c =
    let log = c.in_ok-log.log in
    let is = c.in_ok-log.ensures.log in
    let limit : log.limit ≡ c.args.limit = ap (λ (l : ReadState). l.limit) is in
    let joined : length c.records.result.now ≡ 32 * log.count = ap (λ (xs : List ℕ). length xs) c.records.ensures ∙ c.in_ok-log.ensures.whole in
    let number : length c.in_ok-tags.tags.items ≡ length c.records.result.now / 32 = ap (λ (xs : List (List ℕ)). length xs) c.in_ok-tags.ensures.tags ∙ chunk_count 32 (length c.records.result.now / 32) c.records.result.now in
    let long : vec_len c.in_ok-tags.tags ≡ length c.in_ok-tags.tags.items = search rules in (
      ap (λ (l : ReadState). l.area) is ∙ c.area_of_epoch.ensures.value,
      ap (λ (l : ReadState). l.size) is,
      omega (arith, joined, number, long),
      omega (arith, limit, c.requires.limit),
      omega (arith, limit, c.in_ok-log.ensures.within),
    )
