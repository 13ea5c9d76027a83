-- `and_planned` picks the list with the plan's event at its end. Assumes `Logic`.
use Rattle.std.proofs.Common.{List, [], ◌∷◌, ◌++◌, refl}
use seplogic.Ra.Ura.{Ura}
use mir.Syntax.{Fn, Args, Dict, a_type, dcons, dnil, w64}
use mir.Val.{Val, vptr, vint}
use mir.MapTy.{inst_fn}
use base.Logic.{SProp, ent}
use prog.Memory.{Memory}
use prog.Routine.{Routine}
use prog.Wp.{Calls, Loops, WpFn, Tables}
use contract.Monad.{Fun}
use contract.Running.{tables, tables_of}
use sound.WpLaws.{WpFn-mono}
use types.Logic.{Logic}
use types.Kit.{‵, raw, ◌⊛◌, prop, ◌$◌, ◌∵◌, !, qed, move, keep, drop, split, fsplit, fjoin, feq_l, flt_l, regoal, suffices, done}
use types.Part.{agg}
use types.Run.{enter, returns, no_more}
use types.ByLocal.{alloc_all, pass_all, free_all, look_at, sets}
use denote.Exit.{yes}
use denote.RattleType.{RattleType, owns}
use denote.Builtin.{RefOf, u64}
use denote.Param.{bounded, param}
use denote.Signature.{plain, types_at}
use denote.Steps.{nothing}
use denote.Triple.Clauses.{Clauses, Ended, closing}
use denote.Triple.Entry.{alive}
use denote.Triple.Spec.{Meets, triple_of}
use denote.Triple.Table.{entered}
use denote.Triple.Walked.{says, Stays, stay_dropped, walk_of, ends_at, walk_Meets, Goes-dropped}
use Rattle.xet_events.specs.declared.event.Event.TheVariants.{Planned}
use Rattle.xet_events.specs.declared.plan_source.PlanSource.{Ghosts}
use Rattle.xet_events.proofs.Walks.{none, none_made}
use Rattle.xet_events.specs.contracts.event_log.ToldEvents as ToldEvents
use Rattle.xet_events.specs.contracts.event_log.ToldEvents.and_planned as F
use Rattle.xet_events.specs.contracts.event_log.ToldEvents.and_planned.Key.{name as #self}
use Rattle.xet_events.proofs.event_log.ToldEvents.and_planned.Statement as stated
use Rattle.xet_events.proofs.event_log.ToldEvents.and_planned.Code as code
use Rattle.xet_base.specs.contracts.cas_types.FileRange as FileRange

module _ (S : RattleType) (g : Ghosts S.Denot) (d : Dict) where
  abbrev args : Args
  args = bounded (a_type ∷ []) (S, tt) (dcons d dnil)

  abbrev function : Fn
  function = inst_fn args code.function

  abbrev ended : Ended
  ended = F.ended S g d

  abbrev stayed : Stays ended.signature.params ended.kept
  stayed = (
    stay_dropped (RefOf (0 ∷ []) tt (plain (λ _. ToldEvents.the_row)) (λ _. tt)) yes,
    (
      stay_dropped (plain (λ _. u64)) yes,
      (stay_dropped (RefOf (1 ∷ []) tt (plain (λ _. FileRange.the_row)) (λ _. tt)) yes, (stay_dropped (RefOf (2 ∷ []) tt (plain (λ _. param 0 S)) (λ _. tt)) yes, tt)),
    ),
  )

  module _ {M : Type 1} {𝓤 : Ura M} (𝓛 : Logic 𝓤) (at_mem : Memory → SProp 𝓤) (run : Routine → Fun 𝓤) where
    open 𝓛 use {H}

    abbrev held : Clauses 𝓤 ended
    held = F.clauses S g d 𝓛 at_mem run

    module _ (C : Calls 𝓤 H) (Λ : Loops 𝓤 H) (z : (walk_of 𝓛 ended stayed held).Ghost) where
      abbrev Post : Val → SProp 𝓤
      Post = (walk_of 𝓛 ended stayed held).post z

      abbrev toks : SProp 𝓤
      toks = alive 𝓛 ended.signature z.0.0 z.0.1

      walks : ent 𝓤 ((walk_of 𝓛 ended stayed held).pre z) (WpFn 𝓤 H C Λ function ((walk_of 𝓛 ended stayed held).args z) Post)
      walks =
          let a = z.0.3 in
          let vss = z.0.4 in
          let log : (ToldEvents.the_row).Denot =
          record { told = a.0.now.told ++ Planned a.1.0 a.1.1.0.now (g.terms a.1.1.1.0.now) (g.blocks a.1.1.1.0.now) ∷ [] } in
          let o = vptr a.0.ref_ptr.0 a.0.ref_ptr.1 in
          let p : Val = vint w64 a.1.0 in
          let q = vptr a.1.1.0.ref_ptr.0 a.1.1.0.ref_ptr.1 in
          let r = vptr a.1.1.1.0.ref_ptr.0 a.1.1.1.0.ref_ptr.1 in
          qed 𝓛 ((raw toks ⊛ ‵ (owns (types_at ended.signature.params z.0.0) a vss)) ∷ raw ((held z.0.0 a).requires z.1) ∷ []) ∵
          keep ! (0 ∷ []) $ split ! $ move ! (1 ∷ []) $
          fsplit ! $ fsplit ! $ feq_l ! (λ is₀. drop ! $ fsplit ! $ fsplit ! $ feq_l ! (λ is₁. flt_l ! (λ fits.
          fsplit ! $ fsplit ! $ feq_l ! (λ is₂. drop ! $ fsplit ! $ fsplit ! $ feq_l ! (λ is₃. drop ! $ drop ! $
          regoal ! (λ (us : List Val). prop (WpFn 𝓤 H C Λ function (us ++ (vss.1.0 ++ (vss.1.1.0 ++ (vss.1.1.1.0 ++ [])))) Post)) is₀ refl $
          regoal ! (λ (us : List Val). prop (WpFn 𝓤 H C Λ function ((o ∷ []) ++ (us ++ (vss.1.1.0 ++ (vss.1.1.1.0 ++ [])))) Post)) is₁ refl $
          regoal ! (λ (us : List Val). prop (WpFn 𝓤 H C Λ function ((o ∷ []) ++ ((p ∷ []) ++ (us ++ (vss.1.1.1.0 ++ [])))) Post)) is₂ refl $
          regoal ! (λ (us : List Val). prop (WpFn 𝓤 H C Λ function ((o ∷ []) ++ ((p ∷ []) ++ ((q ∷ []) ++ (us ++ [])))) Post)) is₃ refl $
          enter ! C Λ function (o ∷ p ∷ q ∷ r ∷ []) Post $
          alloc_all ! (λ l. pass_all ! refl ((tt, tt), ((tt, record { fits = fits }), ((tt, tt), ((tt, tt), tt)))) $
          sets ! (agg ! (no_more !)) refl (tt, tt) $
          nothing ! $ none_made ! $ fjoin ! $
          returns ! (look_at ! 0 refl) $ free_all ! refl $
          suffices ! _ (ends_at 𝓛 ended stayed held z none log (tt, (tt, (tt, (tt, tt)))) (tt, (tt, (tt, (tt, tt))))) $ says ! refl $
          nothing ! $ nothing ! $ fjoin ! $ nothing ! $ fjoin ! $ nothing ! $ fjoin ! $ nothing ! $ fjoin ! $ move ! (2 ∷ 0 ∷ 1 ∷ []) $ done !))))))

    meets : (𝓣 : Tables 𝓤 H) → Meets 𝓛 ended.signature (WpFn 𝓤 H 𝓣.C 𝓣.Λ function) (closing 𝓛 ended held)
    meets 𝓣 =
        walk_Meets 𝓛 ended stayed (
          Goes-dropped 𝓛 4 (RefOf (0 ∷ []) tt (plain (λ _. ToldEvents.the_row)) (λ _. tt)) yes (λ κs x f. refl),
          (
            Goes-dropped 𝓛 4 (plain (λ _. u64)) yes (λ κs x f. refl),
            (
              Goes-dropped 𝓛 4 (RefOf (1 ∷ []) tt (plain (λ _. FileRange.the_row)) (λ _. tt)) yes (λ κs x f. refl),
              (Goes-dropped 𝓛 4 (RefOf (2 ∷ []) tt (plain (λ _. param 0 S)) (λ _. tt)) yes (λ κs x f. refl), tt),
            ),
          ),
        ) held
        (WpFn 𝓤 H 𝓣.C 𝓣.Λ function) (WpFn-mono 𝓤 H 𝓛.laws 𝓣 function) (walks 𝓣.C 𝓣.Λ)

pub and_planned_spec : {M : Type 1} → stated.statement M
unfolding tables_of
and_planned_spec 𝓤 𝓛 𝓜 𝓡 wired S LS g d met =
    let 𝓣 : Tables 𝓤 𝓛.H = tables_of 𝓤 𝓛.H 𝓜 (tables 𝓤 𝓛.H 𝓜 𝓡 𝓡.env) in
    entered 𝓤 𝓛.H (triple_of 𝓛 (ended S g d).signature (closing 𝓛 (ended S g d) (held S g d 𝓛 𝓜.mem 𝓡.returns))) 𝓣.C 𝓣.Λ (#self (args S g d)) (function S g d)
    (code.unfolded 𝓤 𝓛.H 𝓜 𝓡 wired (S, tt) d) (meets S g d 𝓛 𝓜.mem 𝓡.returns 𝓣)
