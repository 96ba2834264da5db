use Rattle.std.proofs.Common.{[], sym, ap, ◌∙◌, append-nil}
use Rattle.mb_smf.specs.Smf.{SmfRead, smf, smf_ended}
use Rattle.mb_smf.specs.SmfWritten.{smf_written}
use Rattle.mb_smf.proofs.WrittenLaw.{written-ended, written-read}
use Rattle.mb_track.specs.Track.{track_marks}
use Rattle.mb_tapes.proofs.PlayBackLaw.{played-means, played-moments}
use Rattle.mb_tapes.proofs.laws.recorded_files_play_back.Goals as goal

pub returns-clause-means : goal.returns-clause-means
returns-clause-means c = λ s tape can. played-means (track_marks s 0 tape) can

pub returns-clause-moments : goal.returns-clause-moments
returns-clause-moments c = λ s tape can. played-moments (track_marks s 0 tape) can

pub returns-clause-fault : goal.returns-clause-fault
returns-clause-fault c = λ s tape can.
    ap (λ bytes. (smf bytes).fault) (sym (append-nil (smf_written (track_marks s 0 tape))))
    ∙ ap (λ (r : SmfRead). r.fault) (written-read (track_marks s 0 tape) [] can)

pub returns-clause-ended : goal.returns-clause-ended
returns-clause-ended c = λ s tape can.
    ap smf_ended (sym (append-nil (smf_written (track_marks s 0 tape))))
    ∙ written-ended (track_marks s 0 tape) [] can
