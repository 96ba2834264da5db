use Rattle.std.proofs.Common.{ℕ, List, refl, ap, subst}
use Rattle.mb_stream.specs.ReaderLaw.{answer}
use Rattle.std.proofs.lemmas.Result.{on_ok_weaker, on_err_weaker}
use Rattle.mb_carrier.proofs.ListLemmas.{Fronted, ended-none, ended-seen, ended-halted, ended-last_halted, noted-more}
use Rattle.mb_carrier.proofs.ListLemmas.{end-says}
use Rattle.mb_carrier.proofs.list_steps.list_end.Goals as goal

pub returns-in-None-clause-ended : goal.returns-in-None-clause-ended
returns-in-None-clause-ended g c = ended-none _ _ _ _ (g.R.EventReader.moment c.finish.new.self 0) _
    (end-says (g.R.EventReader.spec c.args.reader.now) (g.R.EventReader.stands c.args.reader.now)
    (g.R.EventReader.moment c.finish.new.self) _ _ _ (ap answer c.in-None.is) refl
    c.finish.ensures.told c.finish.ensures.at) (g.met.K.Out.nothing c.args.out.now)

pub returns-in_default-clause-ended : goal.returns-in_default-clause-ended
returns-in_default-clause-ended g c =
    on_ok_weaker _
    (λ took. ended-seen _ _ _ _ _ _ _ _ _ _ _ c.in-Some.seen (λ x y. g.met.K.Out.both _ _ _ x y)
    (noted-more _ _ _ c.is_note.ensures) c.new-held.ensures
    (end-says (g.R.EventReader.spec c.args.reader.now) (g.R.EventReader.stands c.args.reader.now)
    (g.R.EventReader.moment c.finish.new.self) _ _ _ (ap answer c.in-Some.is) c.moment-moment.ensures
    c.finish.ensures.told c.finish.ensures.at) c.in_default.ensures.ok
    (subst (λ (piece : List ℕ). g.K.Out.took c.list_seen.new.out piece c.take.new.self) c.as_slice.ensures.value took))
    c.take.ensures.took

pub returns-in-Err-clause-halted : goal.returns-in-Err-clause-halted
returns-in-Err-clause-halted g c =
    ended-halted _ _ _ _ _ _ _ c.in-Some.seen c.new-held.ensures
    (end-says (g.R.EventReader.spec c.args.reader.now) (g.R.EventReader.stands c.args.reader.now)
    (g.R.EventReader.moment c.finish.new.self) _ _ _ (ap answer c.in-Some.is) c.moment-moment.ensures
    c.finish.ensures.told c.finish.ensures.at)
    c.in-Err.ensures.err

pub returns-in_default-clause-halted : goal.returns-in_default-clause-halted
returns-in_default-clause-halted g c =
    on_err_weaker _
    (λ front. ended-last_halted _ _ _ _ _ _ _ _ _ _ c.in-Some.seen
    (λ x y. g.met.K.Out.both _ _ _ x y) c.new-held.ensures
    (end-says (g.R.EventReader.spec c.args.reader.now) (g.R.EventReader.stands c.args.reader.now)
    (g.R.EventReader.moment c.finish.new.self) _ _ _ (ap answer c.in-Some.is) c.moment-moment.ensures
    c.finish.ensures.told c.finish.ensures.at) c.in_default.ensures.ok
    (subst (λ (piece : List ℕ). Fronted
    (λ x. g.K.Out.took c.list_seen.new.out x c.take.new.self) piece) c.as_slice.ensures.value front))
    c.take.ensures.front
