use Rattle.mb_ble.proofs.Hands.{empty_nil, some_not}
use Rattle.mb_ble.proofs.Bytes.{byte_taken, byte_kept}
use Rattle.mb_stream.specs.ReaderLaw.{answer}
use Rattle.mb_ble.proofs.Halts.{taken_before, kept_before, byte_longest}
use Rattle.mb_ble.proofs.content.Content.read_byte.Goals as goal

pub returns-then-is_empty-clause-reads : goal.returns-then-is_empty-clause-reads
returns-then-is_empty-clause-reads c =
    byte_taken c.args.self.now c.hand-seen.new.self c.took.new.self c.args.piece.now.now c.split_at.result.0.now
    c.hand-seen.new.piece.now c.in-Some.rest.now c.in-Some.byte.now c.is_common.result _ c.in-Some.ensures.cases.0
    c.split_at.ensures.front
    (empty_nil c.hand-seen.new.piece.now c.is_empty.result c.is_empty.ensures c.if-is_empty.true)
    c.hand-seen.ensures.rest c.hand-seen.ensures.hands c.is_common.ensures c.took.ensures.took c.requires.head
    c.requires.inside c.requires.lone

pub returns-else-is_empty-clause-reads : goal.returns-else-is_empty-clause-reads
returns-else-is_empty-clause-reads c =
    byte_kept c.args.self.now c.hand-seen.new.self c.args.piece.now.now c.split_at.result.0.now
    c.hand-seen.new.piece.now c.in-Some.rest.now c.in-Some.byte.now _ c.in-Some.ensures.cases.0
    c.split_at.ensures.front c.hand-seen.ensures.front.0 c.hand-seen.ensures.front.1
    (some_not c.hand-seen.new.piece.now c.is_empty.result c.is_empty.ensures c.if-is_empty.false)
    c.hand-seen.ensures.rest c.hand-seen.ensures.hands c.requires.head c.requires.inside c.requires.lone

pub returns-then-is_empty-clause-before : goal.returns-then-is_empty-clause-before
returns-then-is_empty-clause-before c = taken_before c.hand-seen.new.piece.now (answer c.hand-seen.result)
    (empty_nil c.hand-seen.new.piece.now c.is_empty.result c.is_empty.ensures c.if-is_empty.true)
    c.hand-seen.ensures.before

pub returns-else-is_empty-clause-before : goal.returns-else-is_empty-clause-before
returns-else-is_empty-clause-before c =
    kept_before c.args.piece.now.now c.split_at.result.0.now c.hand-seen.new.piece.now c.in-Some.rest.now
    c.hand-seen.ensures.front.0 c.in-Some.byte.now (answer c.hand-seen.result) c.in-Some.ensures.cases.0
    c.split_at.ensures.front c.hand-seen.ensures.front.1 c.hand-seen.ensures.before

pub returns-then-is_empty-clause-longest : goal.returns-then-is_empty-clause-longest
returns-then-is_empty-clause-longest c =
    byte_longest c.hand-seen.result c.args.self.now.din c.args.piece.now.now c.split_at.result.0.now c.in-Some.rest.now
    c.in-Some.rest.now c.in-Some.byte.now c.in-Some.ensures.cases.0 c.split_at.ensures.front
    c.hand-seen.ensures.some c.hand-seen.ensures.runs c.requires.shut

pub returns-else-is_empty-clause-longest : goal.returns-else-is_empty-clause-longest
returns-else-is_empty-clause-longest c =
    byte_longest c.hand-seen.result c.args.self.now.din c.args.piece.now.now c.split_at.result.0.now _
    c.in-Some.rest.now c.in-Some.byte.now c.in-Some.ensures.cases.0 c.split_at.ensures.front
    c.hand-seen.ensures.some c.hand-seen.ensures.runs c.requires.shut
