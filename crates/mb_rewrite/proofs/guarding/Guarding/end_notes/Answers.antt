use Rattle.std.proofs.Common.{List, ℕ, map, refl, ◌∙◌, subst}
use Rattle.mb_message.specs.Signs.{ShortSign}
use Rattle.mb_stream.specs.Puts.{puts_at}
use Rattle.mb_guard.specs.Guard.{voice_of}
use Rattle.mb_guard.specs.Sounding.{off_sign}
use Rattle.mb_rewrite.specs.Line.{LineHalted}
use Rattle.mb_rewrite.proofs.GuardLemmas.{off-is, offs-halted, offs-none, offs-then}
use Rattle.mb_rewrite.proofs.guarding.Guarding.end_notes.Goals as goal

pub offs-init : goal.offs-init
offs-init g c = record {
  ready = c.requires.ready;
  sound = refl;
  spec = refl;
  closed = c.requires.closed;
  offs =
      offs-none c.args.self.now.line c.moment-moment.result c.args.self.now.guard c.args.held.now.items
      (λ given. g.K.Out.took c.args.out.now given c.args.out.now) (g.met.K.Out.nothing c.args.out.now);
}

pub returns-in-Err-clause-err : goal.returns-in-Err-clause-err
returns-in-Err-clause-err g c =
    subst (λ (m : ℕ). LineHalted c.args.self.now.line (puts_at m (map off_sign c.args.self.now.guard))
    c.args.held.now.items (λ given. g.K.Out.took c.args.out.now given c.put.new.out)) c.moment-moment.ensures
    (offs-halted c.args.self.now.line c.offs.self.line c.moment-moment.result c.args.self.now.guard
    c.offs.self.guard c.next_off.new.self (voice_of c.in-Some.off)
    (ShortSign c.in-Some.off.status c.in-Some.off.data1 c.in-Some.off.data2) c.args.held.now.items c.offs.held.items
    (λ given. g.K.Out.took c.args.out.now given c.offs.out) (λ given. g.K.Out.took c.offs.out given c.put.new.out)
    (λ given. g.K.Out.took c.args.out.now given c.put.new.out) (λ x y. g.met.K.Out.both _ _ _ x y)
    c.offs.invariant.offs c.in-Some.ensures.first (off-is c.in-Some.off (voice_of c.in-Some.off) c.in-Some.ensures.off)
    c.in-Err.ensures.err)

pub offs-preserved : goal.offs-preserved
offs-preserved g c = record {
  ready = c.put.ensures.ready;
  sound = c.in_default-put.ensures.sound ∙ c.offs.invariant.sound;
  spec = c.offs.invariant.spec;
  closed = c.in_default-put.ensures.in_sysex;
  offs =
      offs-then c.args.self.now.line c.offs.self.line c.put.new.self c.moment-moment.result c.args.self.now.guard
      c.offs.self.guard c.next_off.new.self (voice_of c.in-Some.off)
      (ShortSign c.in-Some.off.status c.in-Some.off.data1 c.in-Some.off.data2) c.args.held.now.items
      c.offs.held.items c.put.new.held.items (λ given. g.K.Out.took c.args.out.now given c.offs.out)
      (λ given. g.K.Out.took c.offs.out given c.put.new.out)
      (λ given. g.K.Out.took c.args.out.now given c.put.new.out) (λ x y. g.met.K.Out.both _ _ _ x y)
      c.offs.invariant.offs c.in-Some.ensures.first
      (off-is c.in-Some.off (voice_of c.in-Some.off) c.in-Some.ensures.off) c.in_default-put.ensures.ok;
}
