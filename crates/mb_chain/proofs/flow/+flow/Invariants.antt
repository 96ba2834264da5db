use Rattle.std.proofs.Common.{◌≡◌, map, length}
use Rattle.mb_carrier.specs.Fill.{work, HasMoment}
use Rattle.mb_carrier.specs.Port.{reader_spec, reader_offset, reader_owed, reader_moment, ReaderStands, writer_spec}
use Rattle.mb_carrier.specs.Port.{WriterStands}
use Rattle.mb_chain.specs.Row.{link_of, RowStands}
use Rattle.mb_chain.proofs.FlowLemmas.{Driving}
use Rattle.mb_chain.proofs.flow.+flow.Given as goal

abbrev pub decreases-flow : goal.decreases-flow
decreases-flow g l = length l.hops.now

-- what the first hop wrote so far was handed on
abbrev pub invariant-buffers : goal.invariant-buffers
invariant-buffers g l =
    let K = g.K.Out in
    record {
      reads : reader_spec l.hop.reader ≡ reader_spec l.initial.hop.reader;
      writes : writer_spec l.hop.writer ≡ writer_spec l.initial.hop.writer;
      last : l.hop.last ≡ l.initial.hop.last;
      links : map link_of l.behind ≡ map link_of l.initial.behind;
      ready : K.ready l.out;
      sound : K.refusals l.out ≡ K.refusals l.initial.out;
      moment : HasMoment l.moment l.left;
      driving : Driving (map link_of l.initial.behind) l.initial.hop l.initial.behind (reader_moment l.hop.reader)
          (ReaderStands l.hop.reader)
          (WriterStands l.hop.writer) (RowStands l.behind) l.hop.wrote
          (reader_offset l.hop.reader) l.moment l.bytes l.left (λ given. K.took l.initial.out given l.out);
    }

abbrev pub decreases-buffers : goal.decreases-buffers
decreases-buffers g l = work (reader_owed l.hop.reader) l.left
