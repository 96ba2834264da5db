use Rattle.std.proofs.Common.{refl, ap, ◌∙◌}
use Rattle.mb_din.specs.Reader.{is_all_data}
use Rattle.mb_stream.specs.ReaderLaw.{answer}
use Rattle.mb_ble.proofs.RunLaw.{run_law, run_none, run_longest, run_falls, run_before, never_of, low-all}
use Rattle.mb_ble.proofs.content.Content.read_data.Goals as goal

pub returns-clause-reads : goal.returns-clause-reads
returns-clause-reads c =
    run_law c.args.self.now c.hand-seen.new.self c.advance.new.self c.args.piece.now.now c.split_at.result.0.now
    c.hand-seen.new.piece.now c.split_at-2.result.1.now c.args.len _ _ c.requires.some c.requires.bound
    (low-all c.split_at.result.0.now (ap is_all_data c.split_at.ensures.front ∙ c.requires.low))
    c.split_at.ensures.front
    refl c.split_at-2.ensures.back c.hand-seen.ensures.hands c.hand-seen.ensures.rest c.advance.ensures c.requires.head
    c.requires.lone (never_of c.args.self.now.din c.requires.begun)

pub returns-clause-none : goal.returns-clause-none
returns-clause-none c = run_none c.hand-seen.result c.args.piece.now.now c.hand-seen.new.piece.now _ c.args.len _
    c.hand-seen.ensures.none c.requires.some c.requires.bound refl c.split_at-2.ensures.back

pub returns-clause-longest : goal.returns-clause-longest
returns-clause-longest c =
    run_longest c.hand-seen.result c.args.self.now.din c.args.piece.now.now c.split_at.result.0.now
    c.hand-seen.new.piece.now _ c.hand-seen.ensures.front.0 c.args.len _ c.hand-seen.ensures.longest
    c.hand-seen.ensures.some c.hand-seen.ensures.runs c.hand-seen.ensures.front.1 c.split_at.ensures.front
    (low-all c.split_at.result.0.now (ap is_all_data c.split_at.ensures.front ∙ c.requires.low)) c.requires.longest refl
    c.split_at-2.ensures.back

pub returns-clause-falls : goal.returns-clause-falls
returns-clause-falls c =
    run_falls c.hand-seen.result c.args.self.now c.hand-seen.new.self c.advance.new.self c.args.piece.now.now
    c.split_at.result.0.now c.hand-seen.new.piece.now c.split_at-2.result.1.now c.hand-seen.ensures.front.0
    c.args.len _
    c.hand-seen.ensures.progress c.hand-seen.ensures.none c.hand-seen.ensures.rest c.advance.ensures
    c.hand-seen.ensures.front.1
    c.requires.some c.requires.bound c.split_at.ensures.front refl c.split_at-2.ensures.back

pub returns-clause-before : goal.returns-clause-before
returns-clause-before c =
    run_before c.split_at.result.0.now c.hand-seen.new.piece.now c.hand-seen.ensures.front.0 (answer c.hand-seen.result)
    c.hand-seen.ensures.front.1
    (low-all c.split_at.result.0.now (ap is_all_data c.split_at.ensures.front ∙ c.requires.low))
    c.hand-seen.ensures.before
