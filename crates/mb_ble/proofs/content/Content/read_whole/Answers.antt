use Rattle.std.proofs.Common.{◌∷◌, [], ap, ◌∙◌, refl, arith}
use Rattle.mb_ble.proofs.Messages.{message_law, message_counts, channel_is, two_data, three_data}
use Rattle.mb_ble.proofs.content.Content.read_whole.Goals as goal

pub returns-then-status-lt224-clause-reads : goal.returns-then-status-lt224-clause-reads
returns-then-status-lt224-clause-reads c =
    message_law c.args.self.now c.pass_message.new.self c.read_two.new.self c.args.piece.now.now c.in_ok-data1.left.now
    c.in_ok-status.status.now (c.in_ok-data1.data1.now ∷ []) _
    (c.in_ok-status.ensures.cases.0 ∙ ap (λ z. c.in_ok-status.status.now ∷ z) c.in_ok-data1.ensures.cases.0)
    c.requires.head c.requires.stamped
    (channel_is c.in_ok-status.status.now (omega (arith, c.if-status-lt128.false))
    (omega (arith, c.if-status-ge240.false))) (two_data _ c.in_ok-data1.data1.now (c.in_ok-seen.ensures.when.0
    refl)) c.in_ok-seen.ensures.whole c.pass_message.ensures

pub returns-then-status-lt224-clause-counts : goal.returns-then-status-lt224-clause-counts
returns-then-status-lt224-clause-counts c =
    message_counts c.args.self.now c.pass_message.new.self c.read_two.new.self c.args.piece.now.now
    c.in_ok-data1.left.now c.in_ok-status.status.now (c.in_ok-data1.data1.now ∷ []) _
    (c.in_ok-status.ensures.cases.0 ∙ ap (λ z. c.in_ok-status.status.now ∷ z) c.in_ok-data1.ensures.cases.0)
    (channel_is c.in_ok-status.status.now (omega (arith, c.if-status-lt128.false))
    (omega (arith, c.if-status-ge240.false))) c.in_ok-seen.ensures.whole c.pass_message.ensures

pub returns-clause-reads : goal.returns-clause-reads
returns-clause-reads c =
    message_law c.args.self.now c.pass_message-2.new.self c.read_three.new.self c.args.piece.now.now
    c.in_ok-data2.behind.now c.in_ok-status.status.now (c.in_ok-data1.data1.now ∷ c.in_ok-data2.data2.now ∷ []) _
    (c.in_ok-status.ensures.cases.0 ∙ ap (λ z. c.in_ok-status.status.now ∷ z) (c.in_ok-data1.ensures.cases.0 ∙
    ap (λ z. c.in_ok-data1.data1.now ∷ z) c.in_ok-data2.ensures.cases.0)) c.requires.head c.requires.stamped
    (channel_is c.in_ok-status.status.now (omega (arith, c.if-status-lt128.false))
    (omega (arith, c.if-status-ge240.false))) (three_data _ c.in_ok-data1.data1.now c.in_ok-data2.data2.now
    (c.in_ok-seen-2.ensures.when.0 refl)) c.in_ok-seen-2.ensures.whole c.pass_message-2.ensures

pub returns-clause-counts : goal.returns-clause-counts
returns-clause-counts c =
    message_counts c.args.self.now c.pass_message-2.new.self c.read_three.new.self c.args.piece.now.now
    c.in_ok-data2.behind.now c.in_ok-status.status.now (c.in_ok-data1.data1.now ∷ c.in_ok-data2.data2.now ∷ []) _
    (c.in_ok-status.ensures.cases.0 ∙ ap (λ z. c.in_ok-status.status.now ∷ z) (c.in_ok-data1.ensures.cases.0 ∙
    ap (λ z. c.in_ok-data1.data1.now ∷ z) c.in_ok-data2.ensures.cases.0))
    (channel_is c.in_ok-status.status.now (omega (arith, c.if-status-lt128.false))
    (omega (arith, c.if-status-ge240.false))) c.in_ok-seen-2.ensures.whole c.pass_message-2.ensures
