use Rattle.std.proofs.Common.{◌<◌, length, arith}
use Rattle.mb_stream.specs.ReaderLaw.{answer}
use Rattle.mb_usb.proofs.ReadLemmas.{hands-read, read-behind, read-owed, some_weaker}
use Rattle.mb_usb.proofs.reader.carry_at.Goals as goal

pub returns-clause-hands : goal.returns-clause-hands
returns-clause-hands c =
    let low : c.args.port < length c.args.dins.now = omega arith in
    hands-read c.args.packet.now c.carry.new.packet c.args.dins.now c.args.port c.carry.new.din _ c.args.input.now.now
    c.carry.new.input.now (answer c.carry.result) low c.carry.ensures.hands

pub returns-clause-behind : goal.returns-clause-behind
returns-clause-behind c =
    let low : c.args.port < length c.args.dins.now = omega arith in
    read-behind c.args.packet.now c.carry.new.packet c.args.dins.now c.args.port c.carry.new.din _ c.args.input.now.now
    c.carry.new.input.now (answer c.carry.result) low c.carry.ensures.hands c.carry.ensures.at c.requires.behind

pub returns-clause-progress : goal.returns-clause-progress
returns-clause-progress c =
    let low : c.args.port < length c.args.dins.now = omega arith in
    some_weaker c.carry.result
    (read-owed c.args.packet.now c.carry.new.packet c.args.dins.now c.args.port c.carry.new.din _ c.args.input.now.now
    c.carry.new.input.now (answer c.carry.result) low c.carry.ensures.hands c.requires.cable c.requires.rested
    c.requires.carries)
    c.carry.ensures.progress
