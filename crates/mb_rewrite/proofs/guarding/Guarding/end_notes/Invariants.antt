use Rattle.std.proofs.Common.{◌≡◌, false, length}
use Rattle.mb_rewrite.specs.Guarding.{guarding_spec}
use Rattle.mb_rewrite.proofs.GuardLemmas.{Offs}
use Rattle.mb_rewrite.proofs.guarding.Guarding.end_notes.Given as goal

abbrev pub invariant-offs : goal.invariant-offs
invariant-offs g l =
    let K = g.K.Out in
    record {
      ready : K.ready l.out;
      sound : K.refusals l.out ≡ K.refusals l.fn.out;
      spec : guarding_spec l.self ≡ guarding_spec l.fn.self;
      closed : l.self.line.writer.in_sysex ≡ false;
      offs : Offs l.fn.self.line l.self.line l.moment l.fn.self.guard l.self.guard l.fn.held.items l.held.items
          (λ given. K.took l.fn.out given l.out);
    }

abbrev pub decreases-offs : goal.decreases-offs
decreases-offs g l = length l.self.guard
