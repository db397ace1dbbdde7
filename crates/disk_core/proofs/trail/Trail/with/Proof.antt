-- The proof picks the history of the new trail, as the note says. Assumes `Logic`.
use Rattle.std.proofs.Common.{List, [], ◌∷◌, ◌++◌, refl}
use seplogic.Ra.Ura.{Ura}
use mir.Syntax.{Fn}
use mir.Val.{Val, vptr}
use base.Logic.{SProp, ent}
use prog.Memory.{Memory}
use prog.Routine.{Routine}
use prog.Wp.{Calls, Loops, WpFn, Tables}
use contract.Monad.{Fun}
use contract.Running.{tables, tables_of}
use sound.WpLaws.{WpFn-mono}
use types.Logic.{Logic}
use types.Kit.{‵, raw, ◌⊛◌, prop, ◌$◌, ◌∵◌, !, qed, move, keep, drop, split, fsplit, fjoin, feq_l, regoal, suffices, done}
use types.Part.{agg}
use types.Run.{enter, returns, no_more}
use types.ByLocal.{alloc_all, pass_all, free_all, look_at, sets}
use denote.Exit.{yes}
use denote.RattleType.{owns}
use denote.Builtin.{RefOf}
use denote.Signature.{plain, types_at, named_lft}
use denote.Steps.{nothing}
use denote.Triple.Clauses.{Clauses, Ended, closing}
use denote.Triple.Entry.{alive}
use denote.Triple.Spec.{Meets, triple_of}
use denote.Triple.Table.{entered}
use denote.Triple.Walked.{says, Stays, stay_dropped, walk_of, ends_at, walk_Meets, Goes-dropped}
use Rattle.disk_core.proofs.Empty.{empty, makes_empty}
use Rattle.disk_core.specs.contracts.trail.Trail as Trail
use Rattle.disk_core.specs.contracts.trail.Note as Note
use Rattle.disk_core.specs.Noted.{noted}
use Rattle.disk_core.specs.contracts.trail.Trail.with as promise
use Rattle.disk_core.specs.contracts.trail.Trail.with.Key.{name as #self}
use Rattle.disk_core.proofs.trail.Trail.with.Statement as stated
use Rattle.disk_core.proofs.trail.Trail.with.Code as code

abbrev body : Fn
body = code.function

abbrev ended : Ended
ended = promise.ended

abbrev stayed : Stays ended.signature.params ended.kept
stayed = (stay_dropped _ yes, (stay_dropped _ yes, tt))

module _ {M : Type 1} {𝓤 : Ura M} (𝓛 : Logic 𝓤) (at_mem : Memory → SProp 𝓤) (run : Routine → Fun 𝓤) where
  open 𝓛 use {H}

  abbrev clauses : Clauses 𝓤 ended
  clauses = promise.clauses 𝓛 at_mem run

  module _ (C : Calls 𝓤 H) (Λ : Loops 𝓤 H) (z : (walk_of 𝓛 ended stayed clauses).Ghost) where
    abbrev Post : Val → SProp 𝓤
    Post = (walk_of 𝓛 ended stayed clauses).post z

    abbrev tokens : SProp 𝓤
    tokens = alive 𝓛 ended.signature z.0.0 z.0.1

    walk : ent 𝓤 ((walk_of 𝓛 ended stayed clauses).pre z) (WpFn 𝓤 H C Λ body ((walk_of 𝓛 ended stayed clauses).args z) Post)
    walk =
        let args = z.0.3 in
        let stored = z.0.4 in
        let old : Val = vptr args.0.ref_ptr.0 args.0.ref_ptr.1 in
        let note : Val = vptr args.1.0.ref_ptr.0 args.1.0.ref_ptr.1 in
        let made : (Trail.the_row).Denot = record { history = noted args.0.now.history args.1.0.now } in
        qed 𝓛 ((raw tokens ⊛ ‵ (owns (types_at ended.signature.params z.0.0) args stored)) ∷ raw ((clauses z.0.0 args).requires z.1) ∷ []) ∵
        keep ! (0 ∷ []) $ split ! $ move ! (1 ∷ []) $
        fsplit ! $ fsplit ! $ feq_l ! (λ old_is. drop ! $ fsplit ! $ fsplit ! $ feq_l ! (λ note_is. drop ! $ drop ! $
        regoal ! (λ (us : List Val). prop (WpFn 𝓤 H C Λ body (us ++ (stored.1.0 ++ [])) Post)) old_is refl $
        regoal ! (λ (us : List Val). prop (WpFn 𝓤 H C Λ body ((old ∷ []) ++ (us ++ [])) Post)) note_is refl $
        enter ! C Λ body (old ∷ note ∷ []) Post $ alloc_all ! (λ l. pass_all ! refl ((tt, tt), ((tt, tt), tt)) $
        sets ! (agg ! (no_more !)) refl (tt, tt) $
        nothing ! $ makes_empty ! $ fjoin ! $
        returns ! (look_at ! 0 refl) $ free_all ! refl $
        suffices ! _ (ends_at 𝓛 ended stayed clauses z empty made (tt, (tt, tt)) (tt, (tt, tt))) $ says ! refl $
        nothing ! $ nothing ! $ fjoin ! $ nothing ! $ fjoin ! $ move ! (2 ∷ 0 ∷ 1 ∷ []) $ done !)))

  meets : (𝓣 : Tables 𝓤 H) → Meets 𝓛 ended.signature (WpFn 𝓤 H 𝓣.C 𝓣.Λ body) (closing 𝓛 ended clauses)
  meets 𝓣 =
      let trail_goes = Goes-dropped 𝓛 3 (RefOf (0 ∷ []) tt (plain (λ _. Trail.the_row)) (λ _. tt)) yes (λ κs x f. refl) in
      let note_goes = Goes-dropped 𝓛 3 (RefOf (1 ∷ []) tt (plain (λ κs. Note.the_row (named_lft 3 2 tt κs))) (λ _. tt)) yes (λ κs x f. refl) in
      walk_Meets 𝓛 ended stayed (trail_goes, (note_goes, tt)) clauses (WpFn 𝓤 H 𝓣.C 𝓣.Λ body) (WpFn-mono 𝓤 H 𝓛.laws 𝓣 body) (walk 𝓣.C 𝓣.Λ)

pub with_spec : {M : Type 1} → stated.statement M
unfolding tables_of
with_spec 𝓤 𝓛 𝓜 𝓡 wired =
    let 𝓣 : Tables 𝓤 𝓛.H = tables_of 𝓤 𝓛.H 𝓜 (tables 𝓤 𝓛.H 𝓜 𝓡 𝓡.env) in
    entered 𝓤 𝓛.H (triple_of 𝓛 ended.signature (closing 𝓛 ended (clauses 𝓛 𝓜.mem 𝓡.returns))) 𝓣.C 𝓣.Λ #self body
    (code.unfolded 𝓤 𝓛.H 𝓜 𝓡 wired) (meets 𝓛 𝓜.mem 𝓡.returns 𝓣)
