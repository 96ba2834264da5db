use Rattle.std.proofs.Common.{◌≡◌, ◌+◌, ◌*◌, ◌/◌, ◌∙◌, ◌∷◌, ◌++◌, length, arith, rules, sym, ap}
use Rattle.mb_fire.specs.Running.{fire_from, dbc_behind}
use Rattle.mb_fire.specs.PortWriter.{frame_size}
use Rattle.mb_fire.proofs.WriterLemmas.{one_byte, grown}
use Rattle.mb_fire.proofs.port_writer.put_each.Goals as goal

pub bytes-preserved : goal.bytes-preserved
bytes-preserved c =
    let first : c.bytes.rest.now ≡ c.in-Some.byte.now ∷ c.in-Some.tail.now = search rules in
    let more : frame_size (c.args.port / 8) * length c.bytes.rest.now
    ≡ frame_size (c.args.port / 8) + frame_size (c.args.port / 8) * length c.in-Some.tail.now =
    ap (λ bs. frame_size (c.args.port / 8) * length bs) first
    ∙ grown (frame_size (c.args.port / 8)) (length c.in-Some.tail.now) in
    let len = c.put_packet.ensures.len in
    let room = c.bytes.invariant.room in
    record {
      count = sym (ap (dbc_behind c.bytes.count) first) ∙ c.bytes.invariant.count;
      bytes = one_byte c.args.port c.bytes.count c.in-Some.byte.now c.in-Some.tail.now _ c.bytes.out.items
          c.put_packet.new.out.items (sym (ap (λ bs. c.bytes.out.items ++ fire_from c.args.port c.bytes.count bs) first)
          ∙ c.bytes.invariant.bytes) c.put_packet.ensures.written;
      room = omega arith;
    }
