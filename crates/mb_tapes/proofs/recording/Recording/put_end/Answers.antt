use Rattle.std.proofs.Common.{[], sym, ap, ◌∙◌, subst, append-nil}
use Rattle.std.proofs.lemmas.Result.{IfErr-weaker, on_ok_weaker}
use Rattle.mb_message.specs.Signs.{signs_of_event}
use Rattle.mb_stream.specs.Puts.{puts_at}
use Rattle.mb_smf.specs.TrackWriting.{TrackWrites}
use Rattle.mb_track.specs.TrackReading.{event_signs, track_moment}
use Rattle.mb_tapes.proofs.RecordingLemmas.{end-follows, end-full, end-writes}
use Rattle.mb_tapes.proofs.recording.Recording.put_end.Goals as goal

pub put-requires-clause-follows : goal.put-requires-clause-follows
put-requires-clause-follows c =
    let st = c.requires.stands.1 in
    end-follows c.args.self.now c.requires.stands.0 c.in-Some.ev (track_moment c.finish.new.self) st
    (ap (λ m. puts_at m (signs_of_event c.in-Some.ev)) c.finish.ensures.moment
    ∙ (ap (λ o. puts_at (track_moment c.args.self.now.track) (event_signs o)) (sym c.in-Some.is)
    ∙ c.finish.ensures.told c.requires.stands.0 st.told))

pub returns-in-Some-clause-writes : goal.returns-in-Some-clause-writes
returns-in-Some-clause-writes c =
    on_ok_weaker c.put.result
    (λ writes bytes st.
    end-writes c.args.self.now c.put.new.self.file (puts_at (track_moment c.finish.new.self)
    (signs_of_event c.in-Some.ev)) bytes st
    (ap (λ m. puts_at m (signs_of_event c.in-Some.ev)) c.finish.ensures.moment
    ∙ (ap (λ o. puts_at (track_moment c.args.self.now.track) (event_signs o)) (sym c.in-Some.is)
    ∙ c.finish.ensures.told bytes st.told)) writes) c.put.ensures.writes

pub returns-in-Some-clause-full : goal.returns-in-Some-clause-full
returns-in-Some-clause-full c =
    IfErr-weaker c.put.result _ _
    (λ full refused bytes st.
    end-full c.args.self.now full (puts_at (track_moment c.finish.new.self) (signs_of_event c.in-Some.ev)) bytes st
    (ap (λ m. puts_at m (signs_of_event c.in-Some.ev)) c.finish.ensures.moment
    ∙ (ap (λ o. puts_at (track_moment c.args.self.now.track) (event_signs o)) (sym c.in-Some.is)
    ∙ c.finish.ensures.told bytes st.told)) refused) c.put.ensures.full

pub returns-in-None-clause-writes : goal.returns-in-None-clause-writes
returns-in-None-clause-writes c = λ bytes st.
    end-writes c.args.self.now c.args.self.now.file [] bytes st
    (ap (λ o. puts_at (track_moment c.args.self.now.track) (event_signs o)) (sym c.in-None.is)
    ∙ c.finish.ensures.told bytes st.told)
    (λ puts h. subst (TrackWrites c.args.self.now.file) (sym (append-nil puts)) h)
