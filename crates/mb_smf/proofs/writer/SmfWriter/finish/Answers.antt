use Rattle.std.proofs.Common.{◌≡◌, ◌++◌, ◌+◌, List, ℕ, length, rules, subst}
use Rattle.std.proofs.lemmas.Result.{on_err_weaker, on_ok_weaker}
use Rattle.mb_smf.specs.SmfWritten.{smf_written}
use Rattle.mb_smf.specs.TrackWriting.{closed, end_bytes, head_bytes}
use Rattle.mb_smf.proofs.HandOnLemmas.{front-is, front-then, front-within}
use Rattle.mb_smf.proofs.WritingLemmas.{file-is}
use Rattle.mb_smf.proofs.writer.SmfWriter.finish.Goals as goal

pub returns-in-Err-clause-front : goal.returns-in-Err-clause-front
returns-in-Err-clause-front g c = λ puts h.
    let len_is : c.track_len.result ≡ 11 + length (c.args.self.body ++ closed c.args.self) = search rules in
    let head_is : c.file_head-head.result ≡ head_bytes c.track_len.result = search rules in
    let both_are : c.file_head-head.result ++ c.as_slice.result.now ≡ c.file_head-head.result ++ c.args.self.body =
    search rules in
    front-is g.K.Out.took c.args.out.now c.take_both.new.out
    ((c.file_head-head.result ++ c.args.self.body) ++ (closed c.args.self ++ end_bytes)) (smf_written puts)
    (file-is c.args.self puts h.spells c.file_head-head.result c.track_len.result head_is len_is)
    (front-within g.K.Out.took c.args.out.now c.take_both.new.out (c.file_head-head.result ++ c.args.self.body)
    (closed c.args.self ++ end_bytes)
    (front-is g.K.Out.took c.args.out.now c.take_both.new.out (c.file_head-head.result ++ c.as_slice.result.now)
    (c.file_head-head.result ++ c.args.self.body) both_are c.in-Err.ensures.front))

pub returns-clause-took : goal.returns-clause-took
returns-clause-took g c = λ puts h.
    let len_is : c.track_len.result ≡ 11 + length (c.args.self.body ++ closed c.args.self) = search rules in
    let head_is : c.file_head-head.result ≡ head_bytes c.track_len.result = search rules in
    let both_are : c.file_head-head.result ++ c.as_slice.result.now ≡ c.file_head-head.result ++ c.args.self.body =
    search rules in
    on_ok_weaker _
    (λ t. subst (λ (z : List ℕ). g.K.Out.took c.args.out.now z c.take_end.new.out)
    (file-is c.args.self puts h.spells c.file_head-head.result c.track_len.result head_is len_is)
    (g.met.K.Out.both c.args.out.now c.take_both.new.out c.take_end.new.out
    (c.file_head-head.result ++ c.args.self.body) (closed c.args.self ++ end_bytes)
    (subst (λ (z : List ℕ). g.K.Out.took c.args.out.now z c.take_both.new.out) both_are c.in_default.ensures.took)
    t)) c.take_end.ensures.took

pub returns-clause-front : goal.returns-clause-front
returns-clause-front g c = λ puts h.
    let len_is : c.track_len.result ≡ 11 + length (c.args.self.body ++ closed c.args.self) = search rules in
    let head_is : c.file_head-head.result ≡ head_bytes c.track_len.result = search rules in
    let both_are : c.file_head-head.result ++ c.as_slice.result.now ≡ c.file_head-head.result ++ c.args.self.body =
    search rules in
    on_err_weaker _
    (λ f. front-is g.K.Out.took c.args.out.now c.take_end.new.out
    ((c.file_head-head.result ++ c.args.self.body) ++ (closed c.args.self ++ end_bytes)) (smf_written puts)
    (file-is c.args.self puts h.spells c.file_head-head.result c.track_len.result head_is len_is)
    (front-then g.K.Out.took g.met.K.Out.both c.args.out.now c.take_both.new.out c.take_end.new.out
    (c.file_head-head.result ++ c.args.self.body) (closed c.args.self ++ end_bytes)
    (subst (λ (z : List ℕ). g.K.Out.took c.args.out.now z c.take_both.new.out) both_are c.in_default.ensures.took)
    f)) c.take_end.ensures.front
