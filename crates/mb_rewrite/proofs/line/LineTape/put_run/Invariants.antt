use Rattle.std.proofs.Common.{◌≡◌, ◌++◌, true, length, map}
use Rattle.std.specs.List.{list_all}
use Rattle.mb_message.specs.Signs.{ByteSign, suits_sign}
use Rattle.mb_stream.specs.Puts.{puts_at}
use Rattle.mb_rewrite.proofs.LineLemmas.{RunWrote}
use Rattle.mb_rewrite.proofs.line.LineTape.put_run.Given as goal

abbrev pub invariant-runs : goal.invariant-runs
invariant-runs g l =
    let K = g.K.Out in
    record {
      ready : K.ready l.out;
      sound : K.refusals l.out ≡ K.refusals l.initial.out;
      in_sysex : l.self.writer.in_sysex ≡ l.initial.self.writer.in_sysex;
      suits : list_all (suits_sign l.self.writer.in_sysex) (map ByteSign l.rest) ≡ true;
      wrote : RunWrote l.initial.self l.self l.moment l.bytes l.rest l.initial.held.items l.held.items
          (λ given. K.took l.initial.out given l.out);
    }

abbrev pub decreases-runs : goal.decreases-runs
decreases-runs g l = length l.rest
