-- `new` makes a value of no bytes, with the empty list as its entries.
use mathlib.Core.Path.{refl}
use mathlib.Core.List.{[], ◌∷◌}
use seplogic.Ra.Ura.{Ura}
use mir.Syntax.{Fn, a_type}
use mir.Val.{Val, vstruct, vcons, vnil}
use mir.MapTy.{inst_fn}
use base.Logic.{SProp, ent}
use base.Fml.{Fml}
use prog.Memory.{Memory}
use prog.Routine.{Routine}
use prog.Wp.{Calls, Loops, WpFn, Tables}
use sound.WpLaws.{WpFn-mono}
use types.Logic.{Logic}
use types.Kit.{‵, raw, ◌⊛◌, ◌$◌, ◌∵◌, !, qed, move, keep, split, use0, suffices, done}
use types.Run.{no_more, and_then, returns, enter}
use types.Part.{agg}
use types.ByLocal.{alloc_all, pass_all, free_all, look_at, get, sets}
use contract.Monad.{Fun}
use contract.Running.{tables, tables_of}
use denote.RattleType.{RattleType, owns}
use denote.Param.{param, layouts}
use denote.Shadow.{makes_shadow}
use denote.Signature.{types_at}
use denote.Steps.{nothing}
use denote.Triple.Clauses.{Clauses, closing}
use denote.Triple.Entry.{alive}
use denote.Triple.Spec.{Meets, triple_of}
use denote.Triple.Table.{entered}
use denote.Triple.Walked.{says, walk_of, ends_at, walk_Meets}
use Rattle.mix_base.specs.contracts.past.History as History
use Rattle.mix_base.specs.contracts.past.History.new as promise
use Rattle.mix_base.proofs.past.History.new.Statement as stated
use Rattle.mix_base.proofs.past.History.new.Code as code

-- the machine value: a struct whose one field is a struct of nothing
abbrev no_bytes : Val
no_bytes = vstruct (vcons (vstruct vnil) vnil)

module _ (T : RattleType) where
  abbrev function : Fn
  function = inst_fn (layouts (a_type ∷ []) (T, tt)) code.function

  module _ {M : Type 1} {𝓤 : Ura M} (𝓛 : Logic 𝓤) (memory : Memory → SProp 𝓤) (run : Routine → Fun 𝓤) where
    open 𝓛 use {H}

    abbrev held : Clauses 𝓤 (promise.ended T)
    held = promise.clauses T 𝓛 memory run

    module _ (C : Calls 𝓤 H) (Λ : Loops 𝓤 H) (z : (walk_of 𝓛 (promise.ended T) tt held).Ghost) where
      abbrev Post : Val → SProp 𝓤
      Post = (walk_of 𝓛 (promise.ended T) tt held).post z

      abbrev made : (History.the_row (param 0 T)).Denot
      made = record { of = record {}; items = [] }

      abbrev owned : Fml
      owned = (History.the_row (param 0 T)).own_val made (no_bytes ∷ [])

      walk : ent 𝓤 ((walk_of 𝓛 (promise.ended T) tt held).pre z) (WpFn 𝓤 H C Λ function ((walk_of 𝓛 (promise.ended T) tt held).args z) Post)
      walk =
          qed 𝓛 ((raw (alive 𝓛 (promise.ended T).signature z.0.0 z.0.1) ⊛ ‵ (owns (types_at (promise.ended T).signature.params z.0.0) z.0.3 z.0.4)) ∷ raw ((held z.0.0 z.0.3).requires z.1) ∷ []) ∵
          keep ! (0 ∷ []) $ split ! $ keep ! (0 ∷ []) $
          enter ! C Λ function [] Post $ alloc_all ! (λ l. pass_all ! refl tt $
          sets ! (agg ! (no_more !)) refl (tt, tt) $
          sets ! (agg ! (and_then ! (get ! refl) (no_more !))) refl (tt, (tt, tt)) $
          returns ! (look_at ! 0 refl) $ free_all ! refl $
          use0 𝓛 (‵ owned) (makes_shadow 𝓛 owned ((λ vss. (tt, ((λ uss. (tt, tt)), tt))), tt) (((vstruct vnil ∷ [], tt), (refl, ((tt, (refl, tt)), tt))), tt)) $
          suffices ! _ (ends_at 𝓛 (promise.ended T) tt held z no_bytes made tt tt) $ says ! refl $
          nothing ! $ move ! (2 ∷ 0 ∷ 1 ∷ []) $ done !)

    meets : (𝓣 : Tables 𝓤 H) → Meets 𝓛 (promise.ended T).signature (WpFn 𝓤 H 𝓣.C 𝓣.Λ function) (closing 𝓛 (promise.ended T) held)
    meets 𝓣 =
        walk_Meets 𝓛 (promise.ended T) tt tt held (WpFn 𝓤 H 𝓣.C 𝓣.Λ function) (WpFn-mono 𝓤 H 𝓛.laws 𝓣 function) (walk 𝓣.C 𝓣.Λ)

pub new_spec : {M : Type 1} → stated.statement M
unfolding tables_of
new_spec 𝓤 𝓛 𝓜 𝓡 wired T laws =
    let 𝓣 : Tables 𝓤 𝓛.H = tables_of 𝓤 𝓛.H 𝓜 (tables 𝓤 𝓛.H 𝓜 𝓡 𝓡.env) in
    entered 𝓤 𝓛.H (triple_of 𝓛 (promise.ended T).signature (closing 𝓛 (promise.ended T) (held T 𝓛 𝓜.mem 𝓡.returns))) 𝓣.C 𝓣.Λ
    (promise.Key.name (layouts (a_type ∷ []) (T, tt))) (function T) (code.unfolded 𝓤 𝓛.H 𝓜 𝓡 wired (T, tt))
    (meets T 𝓛 𝓜.mem 𝓡.returns 𝓣)
