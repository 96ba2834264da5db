-- A chain is a row of hops that its specs link.
use Rattle.std.specs.Prelude.{slice_index_or}
use Rattle.std.proofs.Common.{◌≡◌, ℕ, zero, suc, ◌+◌, ◌<◌, ◌≤◌, ◌^◌, List, [], ◌∷◌, ◌++◌, length, map, take, refl, sym}
use Rattle.std.proofs.Common.{◌∙◌, ap, subst, arith, length-append, append_assoc}
use Rattle.std.proofs.lemmas.List.{append-nil, map-append}
use Rattle.mb_stream.specs.Puts.{Put}
use Rattle.mb_carrier.specs.Carrier.{known, puts_so_far, puts_known, live, written}
use Rattle.mb_carrier.specs.Conversion.{none_set}
use Rattle.mb_carrier.specs.Hop.{HaveMoment}
use Rattle.mb_carrier.specs.Port.{reader_spec, reader_offset, ReaderStands, writer_spec, WriterStands}
use Rattle.mb_carrier.specs.Word.{AreSpecs}
use Rattle.mb_carrier.specs.declared.spec.Spec.{Spec}
use Rattle.mb_carrier.proofs.GrowSpecs.{grows}
use Rattle.mb_chain.specs.Row.{Link, link_of, links_from, hands_on, moments_on, writes_all, moments_all, live_over}
use Rattle.mb_chain.specs.Row.{through_over, HopAt, HaveOne, RowStands, RowDone, IsEarly, EndsEarly, RowFed, RowHalted}
use Rattle.mb_chain.specs.Row.{RowEnded, RowEndHalted}
use Rattle.mb_chain.specs.Chain.{links_of, chain_links, is_broken, ChainStands, ChainEnded, ChainFed, ChainHalted}
use Rattle.mb_chain.specs.Chain.{ChainFinished, ChainEndHalted, written_by}
use Rattle.mb_chain.specs.declared.hop.Hop.{Hop}
use Rattle.mb_chain.specs.declared.chain.Chain.{Chain}
use Rattle.mb_chain.proofs.EarlyLemmas.{chain-early, chain-ends_early}
use Rattle.mb_chain.proofs.EndLemmas.{MayEnd}
use Rattle.mb_chain.proofs.FlowLemmas.{MayFlow}

-- fresh hops

puts-empty : (s : Spec) (moments : ℕ → ℕ) → puts_so_far s moments [] ≡ []
puts-empty s moments = ap (puts_known s moments) (grows s).nothing_known

live-empty : (l : Link) (moments : ℕ → ℕ) → hands_on l moments [] ≡ []
live-empty l moments = ap (live l.writes) (puts-empty l.reads moments) ∙ (grows l.writes).nothing

pub fresh-hop : (h : Hop) (s t : Spec) → reader_spec h.reader ≡ s → writer_spec h.writer ≡ t →
    reader_offset h.reader ≡ 0 → ReaderStands h.reader [] [] → WriterStands h.writer [] → h.last ≡ 0 → h.wrote ≡ 0 →
    (link_of h ≡ record { reads = s; writes = t }) × ((moments : ℕ → ℕ) → HopAt h moments [])
fresh-hop h s t reads writes offset reader writer last none = (
  λ i. record { reads = reads i; writes = writes i },
  λ moments. record {
    offset = offset;
    last = last;
    stands = record {
      reads = subst (ReaderStands h.reader []) (sym ((grows (reader_spec h.reader)).nothing_known)) reader;
      writes = subst (WriterStands h.writer) (sym (puts-empty (reader_spec h.reader) moments)) writer;
    };
    wrote = none ∙ ap length (sym (live-empty (link_of h) moments));
  },
)

abbrev pub AllFresh : List Hop → Type 0
AllFresh [] = Unit {0}
AllFresh (h ∷ hs) = ((moments : ℕ → ℕ) → HopAt h moments []) × AllFresh hs

pub fresh-push : (hs : List Hop) (h : Hop) → AllFresh hs → ((moments : ℕ → ℕ) → HopAt h moments []) →
    AllFresh (hs ++ h ∷ [])
fresh-push [] h all one = (one, tt)
fresh-push (x ∷ xs) h all one = (all.0, fresh-push xs h all.1 one)

pub fresh-row : (hs : List Hop) (moments : ℕ → ℕ) → AllFresh hs → RowStands hs moments []
fresh-row [] moments all = tt
fresh-row (h ∷ hs) moments all = (
  all.0 moments,
  subst (RowStands hs (moments_on (link_of h) moments [])) (sym (live-empty (link_of h) moments))
      (fresh-row hs (moments_on (link_of h) moments []) all.1),
)

links-push : (hs : List Hop) (h : Hop) (first next : Spec) (others : List Spec) (links : List Link) →
    map link_of hs ++ links_from first (next ∷ others) ≡ links → link_of h ≡ record { reads = first; writes = next } →
    map link_of (hs ++ h ∷ []) ++ links_from next others ≡ links
links-push hs h first next others links e same =
    ap (λ ls. ls ++ links_from next others) (map-append link_of hs (h ∷ []))
    ∙ (append_assoc (map link_of hs) (link_of h ∷ []) (links_from next others)
    ∙ (ap (λ (l : Link). map link_of hs ++ l ∷ links_from next others) same ∙ e))

-- one more hop, and the last one

pub links-next : (old new : List Hop) (h : Hop) (first next : Spec) (rest others : List Spec) (links : List Link) →
    new ≡ old ++ h ∷ [] → rest ≡ next ∷ others → link_of h ≡ record { reads = first; writes = next } →
    map link_of old ++ links_from first rest ≡ links → map link_of new ++ links_from next others ≡ links
links-next old new h first next rest others links grown cut same e =
    ap (λ (hs : List Hop). map link_of hs ++ links_from next others) grown
    ∙ links-push old h first next others links
    (ap (λ (ss : List Spec). map link_of old ++ links_from first ss) (sym cut) ∙ e) same

pub links-done : (hops : List Hop) (first : Spec) (rest : List Spec) (links : List Link) → length rest ≡ 0 →
    map link_of hops ++ links_from first rest ≡ links → map link_of hops ≡ links
links-done hops first [] links none e = sym (append-nil (map link_of hops)) ∙ e
links-done hops first (s ∷ ss) links none e = absurd (omega (arith, none))

-- the specs that the hops write are those behind the first

writes-are : (s : Spec) (ss : List Spec) → written_by (links_from s ss) ≡ ss
writes-are s [] = refl
writes-are s (t ∷ ss) = ap (λ (ts : List Spec). t ∷ ts) (writes-are t ss)

pub links-specs : (specs : List Spec) (links : List Link) → links ≡ links_of specs → AreSpecs specs →
    AreSpecs (written_by links)
links-specs [] links same are = subst AreSpecs (sym (ap written_by same)) tt
links-specs (s ∷ ss) links same are = subst AreSpecs (sym (ap written_by same ∙ writes-are s ss)) are.1

specs-behind : (s : Spec) (ss : List Spec) (links : List Link) → links ≡ links_from s ss →
    AreSpecs (written_by links) → AreSpecs ss
specs-behind s ss links same are = subst AreSpecs (ap written_by same ∙ writes-are s ss) are

-- all that crosses is short

early-of : (specs : List Spec) (links : List Link) (bytes : List ℕ) → AreSpecs (written_by links) →
    links ≡ links_of specs → length specs ≤ 10 → length bytes ≤ 2 ^ 40 → IsEarly links none_set bytes
early-of [] links bytes are same few short = subst (λ (ls : List Link). IsEarly ls none_set bytes) (sym same)
    (omega (arith, short))
early-of (s ∷ ss) links bytes are same few short = subst (λ (ls : List Link). IsEarly ls none_set bytes) (sym same)
    (chain-early s ss none_set bytes (specs-behind s ss links same are) (omega (arith, few)) short)

ends_early-of : (specs : List Spec) (links : List Link) (bytes : List ℕ) → AreSpecs (written_by links) →
    links ≡ links_of specs → length specs ≤ 10 → length bytes ≤ 2 ^ 40 → EndsEarly links none_set bytes
ends_early-of [] links bytes are same few short =
    subst (λ (ls : List Link). EndsEarly ls none_set bytes) (sym same) tt
ends_early-of (s ∷ ss) links bytes are same few short =
    subst (λ (ls : List Link). EndsEarly ls none_set bytes) (sym same)
    (chain-ends_early s ss none_set bytes (specs-behind s ss links same are) (omega (arith, few)) short)

-- a recording from outside has one moment

one-moment : (links : List Link) (from count : ℕ) → HaveOne links none_set from count 0
one-moment [] from count = tt
one-moment (l ∷ ls) from count = λ i low high. refl

-- what a row says, said of the chain

pub row-may : (chain : Chain) (hops : List Hop) (input : List ℕ) → hops ≡ chain.hops.items →
    ((bytes : List ℕ) × ChainStands chain bytes × (length (bytes ++ input) ≤ 2 ^ 40)) →
    ((specs : List Spec) × (chain_links chain ≡ links_of specs) × (length specs ≤ 10)) →
    MayFlow (map link_of hops) (RowStands hops) 0 input
row-may chain hops input same w s = (
  none_set,
  w.0,
  subst (λ (hs : List Hop). RowStands hs none_set w.0) (sym same) (w.1).row,
  subst (λ (hs : List Hop). IsEarly (map link_of hs) none_set (w.0 ++ input)) (sym same)
      (early-of s.0 (chain_links chain) (w.0 ++ input) (w.1).are_specs s.1 s.2 w.2),
  one-moment (map link_of hops) (length w.0) (length input),
)

pub row-may_end : (chain : Chain) (hops : List Hop) → hops ≡ chain.hops.items →
    ((bytes : List ℕ) × ChainStands chain bytes × (length bytes ≤ 2 ^ 40)) →
    ((specs : List Spec) × (chain_links chain ≡ links_of specs) × (length specs ≤ 10)) →
    MayEnd (map link_of hops) (RowStands hops)
row-may_end chain hops same w s = (
  none_set,
  w.0,
  subst (λ (hs : List Hop). RowStands hs none_set w.0) (sym same) (w.1).row,
  subst (λ (hs : List Hop). EndsEarly (map link_of hs) none_set w.0) (sym same)
      (ends_early-of s.0 (chain_links chain) w.0 (w.1).are_specs s.1 s.2 w.2),
)

pub chain-fed : (chain now : Chain) (hops hops_now : List Hop) (piece : List ℕ) (took : List ℕ → Type 0) →
    hops ≡ chain.hops.items → hops_now ≡ now.hops.items →
    now.fed ≡ chain.fed + length piece → chain_links now ≡ chain_links chain → is_broken now ≡ is_broken chain →
    RowFed (map link_of hops) (RowStands hops) (RowStands hops_now) 0 piece took →
    ChainFed (chain_links chain) (ChainStands chain) (ChainStands now) piece took
chain-fed chain now hops hops_now piece took same same_now more linked unbroken f0 =
    let f = subst (λ (hs : List Hop). RowFed (map link_of hs) (RowStands hs)
    (RowStands now.hops.items) 0 piece took) same
    (subst (λ (hs : List Hop). RowFed (map link_of hops) (RowStands hops) (RowStands hs) 0 piece took) same_now f0) in
    record {
      given = f.given;
      took_it = f.took_it;
      stands = λ bytes h. record {
        row = f.stands none_set bytes h.row (one-moment (chain_links chain) (length bytes) (length piece));
        fed = more ∙ (ap (λ n. n + length piece) h.fed ∙ sym (length-append bytes piece));
        are_specs = subst (λ (ls : List Link). AreSpecs (written_by ls)) (sym linked) h.are_specs;
        unbroken = unbroken ∙ h.unbroken;
      };
      beyond = λ bytes h. f.beyond none_set bytes h.row (one-moment (chain_links chain) (length bytes) (length piece));
    }

pub chain-halted : (chain : Chain) (hops : List Hop) (piece : List ℕ) (took : List ℕ → Type 0) →
    hops ≡ chain.hops.items →
    RowHalted (map link_of hops) (RowStands hops) 0 piece took →
    ChainHalted (chain_links chain) (ChainStands chain) piece took
chain-halted chain hops piece took same f0 =
    let f = subst (λ (hs : List Hop). RowHalted (map link_of hs) (RowStands hs) 0 piece took) same f0 in
    record {
      given = f.given;
      took_it = f.took_it;
      front = λ bytes h. f.front none_set bytes h.row
          (one-moment (chain_links chain) (length bytes) (length piece));
    }

pub chain-finished : (chain now : Chain) (hops hops_now : List Hop) (took : List ℕ → Type 0) →
    hops ≡ chain.hops.items → hops_now ≡ now.hops.items → now.fed ≡ chain.fed →
    RowEnded (map link_of hops) (RowStands hops) (RowDone hops_now) took →
    ChainFinished (chain_links chain) (ChainStands chain) (ChainEnded now) took
chain-finished chain now hops hops_now took same same_now fed f0 =
    let f = subst (λ (hs : List Hop). RowEnded (map link_of hs) (RowStands hs) (RowDone now.hops.items) took) same
    (subst (λ (hs : List Hop). RowEnded (map link_of hops) (RowStands hops) (RowDone hs) took) same_now f0) in
    record {
      given = f.given;
      took_it = f.took_it;
      counted = λ bytes h. record { row = f.counted none_set bytes h.row; fed = fed ∙ h.fed };
      beyond = λ bytes h. f.beyond none_set bytes h.row;
    }

pub chain-end_halted : (chain : Chain) (hops : List Hop) (took : List ℕ → Type 0) → hops ≡ chain.hops.items →
    RowEndHalted (map link_of hops) (RowStands hops) took → ChainEndHalted (chain_links chain) (ChainStands chain) took
chain-end_halted chain hops took same f0 =
    let f = subst (λ (hs : List Hop). RowEndHalted (map link_of hs) (RowStands hs) took) same f0 in
    record { given = f.given; took_it = f.took_it; front = λ bytes h. f.front none_set bytes h.row }

-- what crossed

crossed-at : (hops : List Hop) (n : ℕ) (d : Hop) (moments : ℕ → ℕ) (bytes : List ℕ) → n < length hops →
    RowStands hops moments bytes →
    (slice_index_or hops n d).wrote ≡ length (live_over (take (suc n) (map link_of hops)) moments bytes)
crossed-at [] n d moments bytes within row = absurd (omega (arith, within))
crossed-at (x ∷ xs) zero d moments bytes within row = (row.0).wrote
crossed-at (x ∷ xs) (suc n) d moments bytes within row = crossed-at xs n d (moments_on (link_of x) moments bytes)
    (hands_on (link_of x) moments bytes) (omega (arith, within)) row.1

crossed_all-at : (hops : List Hop) (n : ℕ) (d : Hop) (moments : ℕ → ℕ) (bytes : List ℕ) → n < length hops →
    RowDone hops moments bytes →
    (slice_index_or hops n d).wrote ≡ length (through_over (take (suc n) (map link_of hops)) moments bytes)
crossed_all-at [] n d moments bytes within row = absurd (omega (arith, within))
crossed_all-at (x ∷ xs) zero d moments bytes within row = row.0
crossed_all-at (x ∷ xs) (suc n) d moments bytes within row = crossed_all-at xs n d
    (moments_all (link_of x) moments bytes) (writes_all (link_of x) moments bytes) (omega (arith, within)) row.1

pub crossed-place : (items hops : List Hop) (i n : ℕ) (d : Hop) (bytes : List ℕ) → items ≡ hops → suc n ≡ i →
    i ≤ length hops → RowStands hops none_set bytes →
    (slice_index_or items n d).wrote ≡ length (live_over (take i (map link_of hops)) none_set bytes)
crossed-place items hops i n d bytes same place within row =
    ap (λ (hs : List Hop). (slice_index_or hs n d).wrote) same
    ∙ (crossed-at hops n d none_set bytes (omega (arith, place, within)) row
    ∙ ap (λ k. length (live_over (take k (map link_of hops)) none_set bytes)) place)

pub crossed_all-place : (items hops : List Hop) (i n : ℕ) (d : Hop) (bytes : List ℕ) → items ≡ hops → suc n ≡ i →
    i ≤ length hops → RowDone hops none_set bytes →
    (slice_index_or items n d).wrote ≡ length (through_over (take i (map link_of hops)) none_set bytes)
crossed_all-place items hops i n d bytes same place within row =
    ap (λ (hs : List Hop). (slice_index_or hs n d).wrote) same
    ∙ (crossed_all-at hops n d none_set bytes (omega (arith, place, within)) row
    ∙ ap (λ k. length (through_over (take k (map link_of hops)) none_set bytes)) place)

pub links-length : (hops : List Hop) → length (map link_of hops) ≡ length hops
links-length [] = refl
links-length (h ∷ hs) = ap suc (links-length hs)
