use Rattle.std.proofs.Common.{◌≡◌, Bool, List, true, ◌++◌, ◌∙◌, subst}
use Rattle.mb_message.specs.Signs.{Sign, signs_of_event}
use Rattle.mb_stream.specs.Appended.{Appended}
use Rattle.mb_din.specs.Writer.{Stands}
use Rattle.mb_din.specs.Written.{din_written, stream_written}
use Rattle.mb_carrier.proofs.PutLemmas.{stands-by, written-by}
use Rattle.mb_carrier.proofs.din.DinWriterEventWriter.put.Goals as goal

pub returns-clause-stands : goal.returns-clause-stands
returns-clause-stands c =
    stands-by (λ (marks : List Sign). Stands c.args.self.now marks × (c.args.self.now.running ≡ true))
    (λ (marks : List Sign). Stands c.put.new.self marks × (c.put.new.self.running ≡ true)) c.args.moment
    (signs_of_event c.args.ev)
    (λ marks s. (c.put.ensures.stands marks s.0, c.put.ensures.running ∙ s.1))

pub returns-clause-written : goal.returns-clause-written
returns-clause-written c =
    written-by din_written (λ (marks : List Sign). Stands c.args.self.now marks ×
    (c.args.self.now.running ≡ true)) c.args.moment (signs_of_event c.args.ev)
    c.args.out.now.items c.put.new.out.items
    (λ marks s. subst (λ (r : Bool). Appended c.args.out.now.items c.put.new.out.items (stream_written r marks)
    (stream_written r (marks ++ signs_of_event c.args.ev))) s.1
    (c.put.ensures.written marks s.0))
