use Rattle.std.proofs.Common.{refl, arith}
use Rattle.mb_stream.specs.ReaderLaw.{answer}
use Rattle.mb_ble.proofs.Whole.{content_tells, content_fit}
use Rattle.mb_ble.proofs.Halts.{content_before, content_longest}
use Rattle.mb_ble.proofs.position.Position.read_content.Goals as goal

pub returns-clause-tells : goal.returns-clause-tells
returns-clause-tells c =
    content_tells c.args.self.now _ c.args.input.now.now c.split_at.result.0.now c.read-seen.new.piece.now
    c.split_at-2.result.1.now c.min-len.result _ (answer c.read-seen.result) c.requires.within (omega arith)
    (omega arith) c.split_at.ensures.front c.read-seen.ensures.reads c.read-seen.ensures.counts
    refl c.pass.ensures c.split_at-2.ensures.back

pub returns-clause-fit : goal.returns-clause-fit
returns-clause-fit c = content_fit c.args.self.now _ c.split_at.result.0.now c.read-seen.new.piece.now _
    c.requires.within c.requires.fit c.read-seen.ensures.counts c.pass.ensures

pub returns-clause-before : goal.returns-clause-before
returns-clause-before c =
    content_before c.args.input.now.now c.split_at.result.0.now c.read-seen.new.piece.now c.split_at-2.result.1.now
    c.read-seen.ensures.counts.taken c.min-len.result _ (answer c.read-seen.result) (omega arith)
    c.split_at.ensures.front c.read-seen.ensures.counts.front
    refl c.split_at-2.ensures.back c.read-seen.ensures.before

pub returns-clause-longest : goal.returns-clause-longest
returns-clause-longest c =
    content_longest c.read-seen.result c.args.self.now.frames c.pass.new.frames c.args.input.now.now
    c.split_at.result.0.now c.read-seen.new.piece.now c.split_at-2.result.1.now c.read-seen.ensures.counts.taken
    c.min-len.result _ (omega arith) (omega arith) (λ h. omega (arith, h))
    c.split_at.ensures.front c.read-seen.ensures.counts.front refl c.split_at-2.ensures.back c.pass.ensures
    c.read-seen.ensures.longest
