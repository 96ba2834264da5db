use Rattle.std.proofs.Common.{[]}
use Rattle.mb_message.specs.Signs.{sign_of}
use Rattle.mb_tapes.proofs.RecordingLemmas.{follows-suits, refused-mark}
use Rattle.mb_tapes.proofs.put_marks.put_mark.Goals as goal

pub put-requires-clause-suits : goal.put-requires-clause-suits
put-requires-clause-suits c =
    follows-suits c.args.file.now c.args.moment (sign_of c.args.mark) [] c.requires.follows

pub returns-clause-full : goal.returns-clause-full
returns-clause-full c =
    refused-mark c.put.result c.args.file.now c.args.moment (sign_of c.args.mark) c.put.ensures.cause
