use Rattle.std.proofs.Common.{◌≡◌, ◌++◌, [], List, map, refl, sym, ap, ◌∙◌, subst}
use Rattle.std.proofs.lemmas.Result.{on_err_weaker}
use Rattle.mb_message.specs.Signs.{Sign, signs_of_event}
use Rattle.mb_stream.specs.Appended.{Appended}
use Rattle.mb_din.specs.Writer.{Stands}
use Rattle.mb_din.specs.Written.{stream_written}
use Rattle.mb_rewrite.proofs.LineLemmas.{appended-by, on-both, one-halted, one-wrote}
use Rattle.mb_rewrite.specs.declared.line.LineTape.{LineTape}
use Rattle.mb_rewrite.proofs.line.LineTape.put_one.Goals as goal

pub returns-clause-ok : goal.returns-clause-ok
returns-clause-ok g c =
    on-both c.gather_all.result _ _ _
    (λ piece holds. one-wrote c.args.self.now (record {
      writer = c.put.new.self;
      gather = c.gather_all.new.gather;
      begun = c.args.self.now.begun;
    }) c.args.moment (signs_of_event c.args.ev) c.as_slice.result.now c.args.held.now.items
    c.gather_all.new.held.items (λ given. g.K.Out.took c.args.out.now given c.gather_all.new.out) c.put.ensures.running
    c.put.ensures.stands
    (λ ms st.
    appended-by c.new-spelled.result.items c.put.new.out.items c.as_slice.result.now _ _ c.new-spelled.ensures
    c.as_slice.ensures.value (c.put.ensures.written ms st)) refl piece holds)
    c.gather_all.ensures.piece c.gather_all.ensures.ok

pub returns-clause-err : goal.returns-clause-err
returns-clause-err g c =
    on_err_weaker c.gather_all.result
    (λ front. one-halted c.args.self.now c.args.moment (signs_of_event c.args.ev) c.as_slice.result.now
    c.args.held.now.items (λ given. g.K.Out.took c.args.out.now given c.gather_all.new.out)
    (λ ms st.
    appended-by c.new-spelled.result.items c.put.new.out.items c.as_slice.result.now _ _ c.new-spelled.ensures
    c.as_slice.ensures.value (c.put.ensures.written ms st)) front)
    c.gather_all.ensures.err
