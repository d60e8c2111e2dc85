-- `with` makes a value of no bytes, whose entries are those of the one it is shown and one more.
use mathlib.Core.Path.{refl}
use mathlib.Core.List.{List, [], ◌∷◌, ◌++◌}
use seplogic.Ra.Ura.{Ura}
use mir.Syntax.{Fn, a_type}
use mir.Val.{Val, vptr, vstruct, vcons, vnil}
use mir.MapTy.{inst_fn}
use base.Logic.{SProp, ent}
use base.Fml.{Fml}
use prog.Memory.{Memory}
use prog.Routine.{Routine}
use prog.Wp.{Calls, Loops, WpFn, Tables}
use sound.WpLaws.{WpFn-mono}
use types.Logic.{Logic}
use types.Kit.{‵, raw, ◌⊛◌, prop, ◌$◌, ◌∵◌, !, qed, move, keep, drop, split, fsplit, fjoin, feq_l, regoal, use0, suffices, done}
use types.Run.{no_more, and_then, returns, enter}
use types.Part.{agg}
use types.ByLocal.{alloc_all, pass_all, free_all, look_at, get, sets}
use contract.Monad.{Fun}
use contract.Running.{tables, tables_of}
use denote.Exit.{yes}
use denote.RattleType.{RattleType, owns}
use denote.Builtin.{RefOf}
use denote.Param.{param, layouts}
use denote.Shadow.{makes_shadow}
use denote.Signature.{plain, types_at}
use denote.Steps.{nothing}
use denote.Triple.Clauses.{Clauses, closing}
use denote.Triple.Entry.{alive}
use denote.Triple.Spec.{Meets, triple_of}
use denote.Triple.Table.{entered}
use denote.Triple.Walked.{says, Stays, stay_dropped, walk_of, ends_at, walk_Meets, Goes-dropped}
use Rattle.mix_base.specs.contracts.past.History as History
use Rattle.mix_base.specs.contracts.past.History.with as promise
use Rattle.mix_base.proofs.past.History.with.Statement as stated
use Rattle.mix_base.proofs.past.History.with.Code as code

-- the machine value: a struct whose one field is a struct of nothing
abbrev no_bytes : Val
no_bytes = vstruct (vcons (vstruct vnil) vnil)

module _ (T : RattleType) where
  abbrev function : Fn
  function = inst_fn (layouts (a_type ∷ []) (T, tt)) code.function

  abbrev shown : RattleType
  shown = History.the_row (param 0 T)

  abbrev stayed : Stays (promise.ended T).signature.params (promise.ended T).kept
  stayed = (stay_dropped (RefOf (0 ∷ []) tt (plain (λ _. shown)) (λ _. tt)) yes, (stay_dropped (RefOf (1 ∷ []) tt (plain (λ _. param 0 T)) (λ _. tt)) yes, tt))

  module _ {M : Type 1} {𝓤 : Ura M} (𝓛 : Logic 𝓤) (memory : Memory → SProp 𝓤) (run : Routine → Fun 𝓤) where
    open 𝓛 use {H}

    abbrev held : Clauses 𝓤 (promise.ended T)
    held = promise.clauses T 𝓛 memory run

    module _ (C : Calls 𝓤 H) (Λ : Loops 𝓤 H) (z : (walk_of 𝓛 (promise.ended T) stayed held).Ghost) where
      abbrev Post : Val → SProp 𝓤
      Post = (walk_of 𝓛 (promise.ended T) stayed held).post z

      abbrev made : (History.the_row (param 0 T)).Denot
      made = record { of = record {}; items = z.0.3.0.now.items ++ z.0.3.1.0.now ∷ [] }

      abbrev owned : Fml
      owned = (History.the_row (param 0 T)).own_val made (no_bytes ∷ [])

      walk : ent 𝓤 ((walk_of 𝓛 (promise.ended T) stayed held).pre z) (WpFn 𝓤 H C Λ function ((walk_of 𝓛 (promise.ended T) stayed held).args z) Post)
      walk =
          let a = z.0.3 in
          let vss = z.0.4 in
          let before : Val = vptr a.0.ref_ptr.0 a.0.ref_ptr.1 in
          let entry : Val = vptr a.1.0.ref_ptr.0 a.1.0.ref_ptr.1 in
          qed 𝓛 ((raw (alive 𝓛 (promise.ended T).signature z.0.0 z.0.1) ⊛ ‵ (owns (types_at (promise.ended T).signature.params z.0.0) a vss)) ∷ raw ((held z.0.0 a).requires z.1) ∷ []) ∵
          keep ! (0 ∷ []) $ split ! $ move ! (1 ∷ []) $
          fsplit ! $ fsplit ! $ feq_l ! (λ is_before. drop ! $ fsplit ! $ fsplit ! $ feq_l ! (λ is_entry. drop ! $ drop ! $
          regoal ! (λ (us : List Val). prop (WpFn 𝓤 H C Λ function (us ++ (vss.1.0 ++ [])) Post)) is_before refl $
          regoal ! (λ (us : List Val). prop (WpFn 𝓤 H C Λ function ((before ∷ []) ++ (us ++ [])) Post)) is_entry refl $
          enter ! C Λ function (before ∷ entry ∷ []) Post $ alloc_all ! (λ l. pass_all ! refl ((tt, tt), ((tt, tt), tt)) $
          sets ! (agg ! (no_more !)) refl (tt, tt) $
          sets ! (agg ! (and_then ! (get ! refl) (no_more !))) refl (tt, (tt, tt)) $
          returns ! (look_at ! 0 refl) $ free_all ! refl $
          use0 𝓛 (‵ owned) (makes_shadow 𝓛 owned ((λ vss. (tt, ((λ uss. (tt, tt)), tt))), tt) (((vstruct vnil ∷ [], tt), (refl, ((tt, (refl, tt)), tt))), tt)) $
          suffices ! _ (ends_at 𝓛 (promise.ended T) stayed held z no_bytes made (tt, (tt, tt)) (tt, (tt, tt))) $ says ! refl $
          nothing ! $ nothing ! $ fjoin ! $ nothing ! $ fjoin ! $ move ! (2 ∷ 0 ∷ 1 ∷ []) $ done !)))

    meets : (𝓣 : Tables 𝓤 H) → Meets 𝓛 (promise.ended T).signature (WpFn 𝓤 H 𝓣.C 𝓣.Λ function) (closing 𝓛 (promise.ended T) held)
    meets 𝓣 =
        walk_Meets 𝓛 (promise.ended T) stayed
        (Goes-dropped 𝓛 3 (RefOf (0 ∷ []) tt (plain (λ _. shown)) (λ _. tt)) yes (λ κs x f. refl), (Goes-dropped 𝓛 3 (RefOf (1 ∷ []) tt (plain (λ _. param 0 T)) (λ _. tt)) yes (λ κs x f. refl), tt))
        held (WpFn 𝓤 H 𝓣.C 𝓣.Λ function) (WpFn-mono 𝓤 H 𝓛.laws 𝓣 function) (walk 𝓣.C 𝓣.Λ)

pub with_spec : {M : Type 1} → stated.statement M
unfolding tables_of
with_spec 𝓤 𝓛 𝓜 𝓡 wired T laws =
    let 𝓣 : Tables 𝓤 𝓛.H = tables_of 𝓤 𝓛.H 𝓜 (tables 𝓤 𝓛.H 𝓜 𝓡 𝓡.env) in
    entered 𝓤 𝓛.H (triple_of 𝓛 (promise.ended T).signature (closing 𝓛 (promise.ended T) (held T 𝓛 𝓜.mem 𝓡.returns))) 𝓣.C 𝓣.Λ
    (promise.Key.name (layouts (a_type ∷ []) (T, tt))) (function T) (code.unfolded 𝓤 𝓛.H 𝓜 𝓡 wired (T, tt))
    (meets T 𝓛 𝓜.mem 𝓡.returns 𝓣)
