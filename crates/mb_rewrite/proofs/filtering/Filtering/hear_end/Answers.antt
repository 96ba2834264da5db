use Rattle.std.proofs.Common.{◌≡◌, refl, sym, ap, ◌∙◌, List, ℕ, subst}
use Rattle.std.proofs.lemmas.Result.{on_err_weaker, on_ok_weaker}
use Rattle.mb_message.specs.Signs.{signs_of_event}
use Rattle.mb_stream.specs.Puts.{puts_at}
use Rattle.mb_filter.specs.Mapped.{mapped_marks}
use Rattle.mb_track.specs.TrackReading.{event_signs, track_moment}
use Rattle.mb_rewrite.specs.Filtering.{filtering_rules}
use Rattle.mb_rewrite.specs.Line.{LineHalted, LineWrote}
use Rattle.mb_rewrite.proofs.FilterLemmas.{end-halted, end-heard, end-none, end-suits}
use Rattle.mb_rewrite.proofs.filtering.Filtering.hear_end.Goals as goal

pub hear-requires-clause-suits : goal.hear-requires-clause-suits
hear-requires-clause-suits g c =
    end-suits c.args.self.now c.requires.stands.0 c.in-Some.ev c.requires.stands.1
    (ap (λ o. puts_at (track_moment c.args.self.now.track) (event_signs o)) (sym c.in-Some.is)
    ∙ c.finish.ensures.told c.requires.stands.0 (c.requires.stands.1).told)

pub returns-in-Some-clause-ok : goal.returns-in-Some-clause-ok
returns-in-Some-clause-ok g c =
    on_ok_weaker c.hear.result
    (λ wrote. end-heard c.args.self.now c.hear.new.self c.in-Some.ev c.args.held.now.items c.hear.new.held.items
    (λ given. g.K.Out.took c.args.out.now given c.hear.new.out)
    (subst (λ (m : ℕ). LineWrote c.args.self.now.line c.hear.new.self.line
    (puts_at m (mapped_marks (filtering_rules c.args.self.now) (signs_of_event c.in-Some.ev)))
    c.args.held.now.items c.hear.new.held.items (λ given. g.K.Out.took c.args.out.now given c.hear.new.out))
    c.finish.ensures.moment wrote)
    (λ bytes t. ap (λ o. puts_at (track_moment c.args.self.now.track) (event_signs o)) (sym c.in-Some.is)
    ∙ c.finish.ensures.told bytes t)) c.hear.ensures.ok

pub returns-in-Some-clause-err : goal.returns-in-Some-clause-err
returns-in-Some-clause-err g c =
    on_err_weaker c.hear.result
    (λ halted. end-halted c.args.self.now c.in-Some.ev c.args.held.now.items
    (λ given. g.K.Out.took c.args.out.now given c.hear.new.out)
    (subst (λ (m : ℕ). LineHalted c.args.self.now.line
    (puts_at m (mapped_marks (filtering_rules c.args.self.now) (signs_of_event c.in-Some.ev)))
    c.args.held.now.items (λ given. g.K.Out.took c.args.out.now given c.hear.new.out)) c.finish.ensures.moment halted)
    (λ bytes t. ap (λ o. puts_at (track_moment c.args.self.now.track) (event_signs o)) (sym c.in-Some.is)
    ∙ c.finish.ensures.told bytes t)) c.hear.ensures.err

pub returns-in-None-clause-ok : goal.returns-in-None-clause-ok
returns-in-None-clause-ok g c =
    end-none c.args.self.now _ c.args.held.now.items (λ given. g.K.Out.took c.args.out.now given c.args.out.now)
    (g.met.K.Out.nothing c.args.out.now) refl
    (λ bytes t. ap (λ o. puts_at (track_moment c.args.self.now.track) (event_signs o)) (sym c.in-None.is)
    ∙ c.finish.ensures.told bytes t)
