-- Bytes on their way through a chain into a taker of sums.
use Rattle.std.proofs.Common.{◌≡◌, ℕ, zero, suc, ◌+◌, ◌*◌, ◌^◌, ◌<◌, ◌≤◌, List, [], ◌∷◌, ◌++◌, length, take, drop}
use Rattle.std.proofs.Common.{min, refl}
use Rattle.std.proofs.Common.{sym, ◌∙◌, ap, subst, arith, append_assoc, length-append, length-drop}
use Rattle.std.proofs.Math.Seq.{take-append_seam}
use Rattle.std.proofs.lemmas.List.{append-nil, take-append-drop, length-take-le}
use Rattle.mb_message.specs.Front.{IsFront, IsPart}
use Rattle.mb_outside.specs.Cause.{Rose}
use Rattle.mb_carrier.specs.Conversion.{none_set, through, live_through}
use Rattle.mb_carrier.specs.Word.{AreSpecs}
use Rattle.mb_carrier.specs.declared.spec.Spec.{Spec}
use Rattle.mb_carrier.specs.declared.spec.Spec.TheVariants.{Din, Usb, Fire, Ble}
use Rattle.mb_carrier.proofs.ConversionLemmas.{laws, through-bounded, through-means}
use Rattle.mb_carrier.proofs.GrowLemmas.{live-ends}
use Rattle.mb_carrier.proofs.GrowSpecs.{grows}
use Rattle.mb_chain.specs.Chain.{links_of, chain_links, crossing_all, ChainStands, ChainEnded, ChainFed, ChainHalted}
use Rattle.mb_chain.specs.Chain.{ChainFinished}
use Rattle.mb_chain.specs.Chain.{ChainEndHalted}
use Rattle.mb_chain.specs.Row.{Link, live_over, through_over}
use Rattle.mb_chain.specs.declared.chain.Chain.{Chain}
use Rattle.mb_chain.proofs.RowLemmas.{live-chain, through-chain}
use Rattle.mb_smoke.specs.Selftest.{selftest_specs, last_written, written_lengths, text_of_made, ToConvert, Converted}
use Rattle.mb_smoke.specs.Summed.{mixed, counts_of}
use Rattle.mb_smoke.specs.Texts.{lines_text}
use Rattle.mb_denote.specs.declared.counts.Counts.{Counts}
use Rattle.mb_carrier.specs.Carrier.{den}
use Rattle.mb_smoke.specs.SumOut.{SumStands, SumTook, SumEnded, refusals_of}
use Rattle.mb_smoke.specs.declared.sum_out.SumOut.{SumOut}

-- how much comes out

front-length : (xs ys : List ℕ) → IsFront xs ys → length xs ≤ length ys
front-length xs ys f = omega (arith, ap length f.1, length-append xs f.0)

small : (n m : ℕ) → n ≤ 1024 * (2 * m + 3) + 1024 → m ≤ 66000000 → n < 2 ^ 62
small n m bound few = omega arith

abbrev between : List Spec
between = Usb 0 ∷ Ble 20 ∷ Fire 0 ∷ []

between-specs : AreSpecs between
between-specs = (omega arith, ((omega arith, omega arith), (omega arith, tt)))

through-small : (bytes : List ℕ) → length bytes ≤ 66000000 → length (through Din between Din bytes) < 2 ^ 62
through-small bytes few =
    small (length (through Din between Din bytes)) (length bytes)
    (through-bounded Din between Din bytes between-specs tt) few

live-small : (bytes : List ℕ) → length bytes ≤ 66000000 →
    length (live_over (links_of selftest_specs) none_set bytes) < 2 ^ 62
live-small bytes few =
    by (length (live_over (links_of selftest_specs) none_set bytes)) (length (live_through Din between Din bytes))
    (length (through Din between Din (bytes ++ []))) (ap length (live-chain Din between Din none_set bytes))
    (front-length (live_through Din between Din bytes) (through Din between Din (bytes ++ []))
    (live-ends laws grows Din between Din bytes []))
    (through-small (bytes ++ []) (same-few (length (bytes ++ [])) (length bytes) (ap length (append-nil bytes)) few))
  where
    by : (a b n : ℕ) → a ≡ b → b ≤ n → n < 2 ^ 62 → a < 2 ^ 62
    by a b n e f g = omega arith

    same-few : (a b : ℕ) → a ≡ b → b ≤ 66000000 → a ≤ 66000000
    same-few a b e f = omega arith

last-through : (bytes : List ℕ) → through_over (links_of selftest_specs) none_set bytes ≡ last_written bytes
unfolding last_written
last-through bytes = through-chain Din between Din none_set bytes

pub last-means : (made : List ℕ) → den Din (last_written made) ≡ den Din made
unfolding last_written
last-means made = through-means Din between Din made between-specs tt

-- a taker that was given less never refuses
never-refused : (out now : SumOut) (bytes given all : List ℕ) → SumTook out given now → SumStands out bytes →
    refusals_of out ≡ 0 → IsPart (bytes ++ given) all → length all < 2 ^ 62 →
    Rose (refusals_of out) (refusals_of now) → ⊥
never-refused out now bytes given all took stands none part few rose =
    let same : refusals_of now ≡ refusals_of out = took.never bytes stands
    (omega (arith, ap length part.1, length-append (bytes ++ given) part.0, few)) in
    by (refusals_of out) (refusals_of now) none same rose
  where
    by : (n m : ℕ) → n ≡ 0 → m ≡ n → Rose n m → ⊥
    by n m a b r = omega arith

pub feed-halted : (chain : Chain) (out now : SumOut) (bytes piece : List ℕ) → ToConvert chain out bytes →
    length (bytes ++ piece) ≤ 66000000 →
    ChainHalted (chain_links chain) (ChainStands chain) piece (λ given. SumTook out given now) →
    Rose (refusals_of out) (refusals_of now) → ⊥
feed-halted chain out now bytes piece h few halted rose =
    never-refused out now (live_over (links_of selftest_specs) none_set bytes) halted.given
    (live_over (links_of selftest_specs) none_set (bytes ++ piece)) halted.took_it h.sums h.never
    (subst (λ (links : List Link). IsPart (live_over links none_set bytes ++ halted.given)
    (live_over links none_set (bytes ++ piece))) h.links (halted.front bytes h.stands))
    (live-small (bytes ++ piece) few) rose

pub end-halted : (chain : Chain) (out now : SumOut) (bytes : List ℕ) → ToConvert chain out bytes →
    length bytes ≤ 66000000 →
    ChainEndHalted (chain_links chain) (ChainStands chain) (λ given. SumTook out given now) →
    Rose (refusals_of out) (refusals_of now) → ⊥
end-halted chain out now bytes h few halted rose =
    never-refused out now (live_over (links_of selftest_specs) none_set bytes) halted.given
    (through_over (links_of selftest_specs) none_set bytes) halted.took_it h.sums h.never
    (subst (λ (links : List Link). IsPart (live_over links none_set bytes ++ halted.given)
    (through_over links none_set bytes)) h.links (halted.front bytes h.stands))
    (subst (λ (n : ℕ). n < 2 ^ 62) (sym (ap length (through-chain Din between Din none_set bytes)))
    (through-small bytes few)) rose

pub feed-goes : (chain chain_now : Chain) (out now : SumOut) (bytes piece : List ℕ) → ToConvert chain out bytes →
    chain_links chain_now ≡ chain_links chain → refusals_of now ≡ refusals_of out →
    ChainFed (chain_links chain) (ChainStands chain) (ChainStands chain_now) piece (λ given. SumTook out given now) →
    ToConvert chain_now now (bytes ++ piece)
feed-goes chain chain_now out now bytes piece h links sound fed =
    record {
      links = links ∙ h.links;
      stands = fed.stands bytes h.stands;
      sums = subst (λ (bs : List ℕ). SumStands now bs)
          (sym (subst (λ (ls : List Link). live_over ls none_set (bytes ++ piece)
          ≡ live_over ls none_set bytes ++ fed.given) h.links (fed.beyond bytes h.stands)))
          (fed.took_it.stands (live_over (links_of selftest_specs) none_set bytes) h.sums);
      never = sound ∙ h.never;
    }

pub end-goes : (chain chain_now : Chain) (out now ended : SumOut) (bytes : List ℕ) → ToConvert chain out bytes →
    chain_links chain_now ≡ chain_links chain →
    ChainFinished (chain_links chain) (ChainStands chain) (ChainEnded chain_now) (λ given. SumTook out given now) →
    ((bs : List ℕ) → SumStands now bs → SumEnded ended bs) → Converted chain_now ended bytes
end-goes chain chain_now out now ended bytes h links done ends =
    record {
      links = links ∙ h.links;
      ended = done.counted bytes h.stands;
      sums = ends (last_written bytes)
          (subst (λ (bs : List ℕ). SumStands now bs)
          (sym (subst (λ (ls : List Link). through_over ls none_set bytes
          ≡ live_over ls none_set bytes ++ done.given) h.links (done.beyond bytes h.stands)) ∙ last-through bytes)
          (done.took_it.stands (live_over (links_of selftest_specs) none_set bytes) h.sums));
    }

-- the next piece that is made

pub filled-front : (maker maker_now buffer buffer_now : List ℕ) (n : ℕ) → n ≡ min (length maker) (length buffer) →
    buffer_now ≡ take n maker ++ drop n buffer → maker_now ≡ drop n maker → maker ≡ take n buffer_now ++ maker_now
filled-front maker maker_now buffer buffer_now n count bytes left =
    let within : n ≤ length maker = omega arith in
    let seam : take n (take n maker ++ drop n buffer) ≡ take n maker =
    ap (λ k. take k (take n maker ++ drop n buffer)) (sym (length-take-le n maker within))
    ∙ take-append_seam (take n maker) (drop n buffer) in
    sym (ap (λ xs. take n xs ++ maker_now) bytes
    ∙ (ap (λ xs. xs ++ maker_now) seam
    ∙ (ap (λ xs. take n maker ++ xs) left ∙ take-append-drop n maker)))

-- where the buffer has room and got nothing, nothing is left
pub filled-last : (maker maker_now buffer : List ℕ) (n : ℕ) → n ≡ min (length maker) (length buffer) →
    maker_now ≡ drop n maker → 0 < length buffer → n ≡ 0 → maker_now ≡ []
filled-last maker maker_now buffer n count left some none =
    none-left maker_now (omega (arith, ap length left, length-drop n maker))
  where
    none-left : (xs : List ℕ) → length xs ≡ 0 → xs ≡ []
    none-left [] e = refl
    none-left (x ∷ xs) e = absurd (omega arith)

pub filled-next : (all fed piece maker maker_now buffer buffer_now : List ℕ) (n : ℕ) →
    all ≡ fed ++ (piece ++ maker) → n ≡ min (length maker) (length buffer) →
    buffer_now ≡ take n maker ++ drop n buffer → maker_now ≡ drop n maker →
    all ≡ (fed ++ piece) ++ (take n buffer_now ++ maker_now)
filled-next all fed piece maker maker_now buffer buffer_now n cut count bytes left =
    cut ∙ (sym (append_assoc fed piece maker)
    ∙ ap (λ xs. (fed ++ piece) ++ xs) (filled-front maker maker_now buffer buffer_now n count bytes left))

-- what was fed is short
pub fed-few : (all fed piece maker : List ℕ) (count : ℕ) → all ≡ fed ++ (piece ++ maker) → length all ≤ 66 * count →
    count ≤ 1000000 → length (fed ++ piece) ≤ 66000000
fed-few all fed piece maker count cut few most =
    omega (
      arith,
      ap length cut,
      length-append fed (piece ++ maker),
      length-append piece maker,
      length-append fed piece,
      few,
      most,
    )

-- all was fed
pub fed-all : (all fed buffer maker : List ℕ) (n : ℕ) → all ≡ fed ++ (take n buffer ++ maker) → n ≤ 0 →
    (n ≡ 0 → maker ≡ []) → fed ≡ all
fed-all all fed buffer maker zero cut none last =
    sym (cut ∙ (ap (λ xs. fed ++ xs) (last refl) ∙ append-nil fed))
fed-all all fed buffer maker (suc n) cut none last = absurd (omega arith)

pub all-few : (all fed : List ℕ) (count : ℕ) → fed ≡ all → length all ≤ 66 * count → count ≤ 1000000 →
    length fed ≤ 66000000
all-few all fed count same few most = omega (arith, ap length same, few, most)

-- the lines

five-texts : (made made_is : ℕ) (a b c d a_is b_is c_is d_is : ℕ) (counts counts_is : Counts) (mix mix_is : ℕ) →
    made ≡ made_is → a ≡ a_is → b ≡ b_is → c ≡ c_is → d ≡ d_is → counts ≡ counts_is → mix ≡ mix_is →
    lines_text made (a ∷ b ∷ c ∷ d ∷ []) counts mix
    ≡ lines_text made_is (a_is ∷ b_is ∷ c_is ∷ d_is ∷ []) counts_is mix_is
five-texts made made_is a b c d a_is b_is c_is d_is counts counts_is mix mix_is e f g h i j k =
    ap (λ n. lines_text n (a ∷ b ∷ c ∷ d ∷ []) counts mix) e
    ∙ (ap (λ n. lines_text made_is (n ∷ b ∷ c ∷ d ∷ []) counts mix) f
    ∙ (ap (λ n. lines_text made_is (a_is ∷ n ∷ c ∷ d ∷ []) counts mix) g
    ∙ (ap (λ n. lines_text made_is (a_is ∷ b_is ∷ n ∷ d ∷ []) counts mix) h
    ∙ (ap (λ n. lines_text made_is (a_is ∷ b_is ∷ c_is ∷ n ∷ []) counts mix) i
    ∙ (ap (λ n. lines_text made_is (a_is ∷ b_is ∷ c_is ∷ d_is ∷ []) n mix) j
    ∙ ap (λ n. lines_text made_is (a_is ∷ b_is ∷ c_is ∷ d_is ∷ []) counts_is n) k)))))

pub text-converted : (chain : Chain) (out : SumOut) (bytes : List ℕ) (made a b c d : ℕ) (counts : Counts) (mix : ℕ) →
    chain_links chain ≡ links_of selftest_specs →
    made ≡ length (crossing_all (chain_links chain) 0 bytes) → a ≡ length (crossing_all (chain_links chain) 1 bytes) →
    b ≡ length (crossing_all (chain_links chain) 2 bytes) → c ≡ length (crossing_all (chain_links chain) 3 bytes) →
    d ≡ length (crossing_all (chain_links chain) 4 bytes) → counts ≡ counts_of (den Din (last_written bytes)) →
    mix ≡ mixed 0 (last_written bytes) → lines_text made (a ∷ b ∷ c ∷ d ∷ []) counts mix ≡ text_of_made bytes
unfolding last_written written_lengths
text-converted chain out bytes made a b c d counts mix links e f g h i j k =
    let at : (n place : ℕ) → n ≡ length (crossing_all (chain_links chain) place bytes) →
    n ≡ length (crossing_all (links_of selftest_specs) place bytes) =
    λ n place same. subst (λ (ls : List Link). n ≡ length (crossing_all ls place bytes)) links same in
    five-texts made (length bytes) a b c d (length (through Din [] (Usb 0) bytes))
    (length (through Din (Usb 0 ∷ []) (Ble 20) bytes)) (length (through Din (Usb 0 ∷ Ble 20 ∷ []) (Fire 0) bytes))
    (length (last_written bytes)) counts (counts_of (den Din (last_written bytes))) mix (mixed 0 (last_written bytes))
    (at made 0 e) (at a 1 f ∙ ap length (through-chain Din [] (Usb 0) none_set bytes))
    (at b 2 g ∙ ap length (through-chain Din (Usb 0 ∷ []) (Ble 20) none_set bytes))
    (at c 3 h ∙ ap length (through-chain Din (Usb 0 ∷ Ble 20 ∷ []) (Fire 0) none_set bytes))
    (at d 4 i ∙ ap length (through-chain Din between Din none_set bytes)) j k
