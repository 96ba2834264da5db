use Rattle.std.proofs.Common.{◌≡◌, ◌++◌, true, length, rules}
use Rattle.std.proofs.lemmas.Result.{on_err_weaker}
use Rattle.mb_smf.specs.SmfWritten.{ticks_behind}
use Rattle.mb_smf.specs.TrackWriting.{broken_head, closed, end_bytes}
use Rattle.mb_smf.proofs.HandOnLemmas.{front-is, front-then, front-within}
use Rattle.mb_smf.proofs.WritingLemmas.{closing-is}
use Rattle.mb_smf.proofs.writer.SmfWriter.take_end.Goals as goal

pub returns-in-Err-clause-front : goal.returns-in-Err-clause-front
returns-in-Err-clause-front g c =
    let open_is : c.args.self.now.open_now ≡ true = search rules in
    let bytes_are : c.as_slice-2.result.now ≡ c.args.self.now.data_bytes = search rules in
    let held_is : c.len.result ≡ length c.args.self.now.data_bytes = search rules in
    let head_is : c.as_slice.result.now ≡ broken_head (ticks_behind c.args.self.now.last c.args.self.now.moment)
    c.len.result = search rules in
    front-is g.K.Out.took c.args.out.now c.take_both.new.out
    ((c.as_slice.result.now ++ c.as_slice-2.result.now) ++ end_bytes) (closed c.args.self.now ++ end_bytes)
    (closing-is c.args.self.now open_is c.as_slice.result.now c.as_slice-2.result.now c.len.result bytes_are held_is
    head_is)
    (front-within g.K.Out.took c.args.out.now c.take_both.new.out (c.as_slice.result.now ++ c.as_slice-2.result.now)
    end_bytes c.in-Err.ensures.front)

pub returns-clause-front : goal.returns-clause-front
returns-clause-front g c =
    let open_is : c.args.self.now.open_now ≡ true = search rules in
    let bytes_are : c.as_slice-2.result.now ≡ c.args.self.now.data_bytes = search rules in
    let held_is : c.len.result ≡ length c.args.self.now.data_bytes = search rules in
    let head_is : c.as_slice.result.now ≡ broken_head (ticks_behind c.args.self.now.last c.args.self.now.moment)
    c.len.result = search rules in
    on_err_weaker _
    (λ f. front-is g.K.Out.took c.args.out.now c.take-2.new.self
    ((c.as_slice.result.now ++ c.as_slice-2.result.now) ++ end_bytes) (closed c.args.self.now ++ end_bytes)
    (closing-is c.args.self.now open_is c.as_slice.result.now c.as_slice-2.result.now c.len.result bytes_are held_is
    head_is)
    (front-then g.K.Out.took g.met.K.Out.both c.args.out.now c.take_both.new.out c.take-2.new.self
    (c.as_slice.result.now ++ c.as_slice-2.result.now) end_bytes c.in_default.ensures.took f)) c.take-2.ensures.front
