-- A piece on its way through the reader of a taker of sums.
use Rattle.std.proofs.Common.{◌≡◌, ℕ, suc, Bool, true, false, if◌then◌else◌, ◌+◌, ◌*◌, ◌%◌, ◌^◌, ◌≤◌, List, [], ◌∷◌}
use Rattle.std.proofs.Common.{◌++◌, map, length, refl, sym, ap}
use Rattle.std.proofs.Common.{◌∙◌, subst, arith, append_assoc, length-append}
use Rattle.std.proofs.lemmas.List.{append-nil}
use Rattle.mb_message.specs.Signs.{Sign, ByteSign}
use Rattle.mb_message.specs.Front.{IsFront}
use Rattle.mb_stream.specs.Payload.{Entry}
use Rattle.mb_stream.specs.Groups.{last_of}
use Rattle.mb_stream.specs.Told.{Known, Told, Marks, at_end}
use Rattle.mb_stream.specs.Reading.{so_far, told_signs, sign_in}
use Rattle.mb_stream.specs.ReaderLaw.{bare_told}
use Rattle.mb_din.specs.State.{State}
use Rattle.mb_din.specs.Recording.{din_payload}
use Rattle.mb_din.specs.Reader.{Stands, NextSays, DinAllTold}
use Rattle.mb_denote.specs.Counted.{Counted, number_of, is_short_sign, is_end, is_abort, is_rt}
use Rattle.mb_denote.proofs.CountLemmas.{Counted_put}
use Rattle.mb_denote.specs.declared.counts.Counts.{Counts}
use Rattle.mb_carrier.specs.Carrier.{known, known_signs, end_told, marks_of, marks_so_far}
use Rattle.mb_carrier.specs.Line.{LineStands}
use Rattle.mb_carrier.specs.DinLaws.{known-stays, marks-end}
use Rattle.mb_carrier.specs.declared.spec.Spec.TheVariants.{Din}
use Rattle.mb_carrier.proofs.LineLemmas.{line-goes, line-all_told}
use Rattle.mb_din.proofs.DinMarks.{two_a_byte}
use Rattle.mb_smoke.specs.Summed.{mixed}
use Rattle.mb_smoke.specs.SumOut.{HasRoom, ReadStands, SumStands, SumTook, SumEnded, refusals_of}
use Rattle.mb_smoke.specs.declared.sum_out.SumOut.{SumOut}
use Rattle.mb_smoke.proofs.MeantLemmas.{meant-counted}

-- some of the piece was taken, and what was told of it was counted
pub record Midway (reader : State) (counts : Counts) (bytes piece rest : List ℕ) : Type 0 where
  pub taken : List ℕ
  pub cut : piece ≡ taken ++ rest
  pub told : List Known
  pub stands : LineStands reader (bytes ++ taken) told
  pub front : IsFront told (known Din (bytes ++ piece))
  pub counted : Counted counts (known_signs told)

pub midway-start : (reader : State) (counts : Counts) (bytes piece : List ℕ) → ReadStands reader counts bytes →
    Midway reader counts bytes piece piece
midway-start reader counts bytes piece h =
    record {
      taken = [];
      cut = refl;
      told = known Din bytes;
      stands = subst (λ (bs : List ℕ). LineStands reader bs (known Din bytes)) (sym (append-nil bytes)) h.reads;
      front = known-stays bytes piece;
      counted = h.counted;
    }

known_signs-append : (ks ls : List Known) → known_signs (ks ++ ls) ≡ known_signs ks ++ known_signs ls
known_signs-append [] ls = refl
known_signs-append (k ∷ ks) ls =
    ap (λ ms. sign_in k.told ++ ms) (known_signs-append ks ls)
    ∙ sym (append_assoc (sign_in k.told) (known_signs ks) (known_signs ls))

known_signs-bare : (ks : List Known) → known_signs ks ≡ told_signs (map bare_told ks)
known_signs-bare [] = refl
known_signs-bare (k ∷ ks) = ap (λ ms. sign_in k.told ++ ms) (known_signs-bare ks)

-- the reader told of something more, which was counted
pub midway-step : (reader reader_now : State) (counts counts_now : Counts) (bytes piece rest left : List ℕ)
    (answer : List Told) → NextSays reader reader_now rest left answer →
    reader_now.offset + length left ≡ reader.offset + length rest →
    ((marks : List Sign) → Counted counts marks → Counted counts_now (marks ++ told_signs answer)) →
    Midway reader counts bytes piece rest → Midway reader_now counts_now bytes piece left
midway-step reader reader_now counts counts_now bytes piece rest left answer says ends count m =
    let whole : (bytes ++ m.taken) ++ rest ≡ bytes ++ piece = append_assoc bytes m.taken rest
    ∙ ap (λ xs. bytes ++ xs) (sym m.cut) in
    let g = (line-goes reader reader_now rest left answer says ends (bytes ++ m.taken) m.told m.stands
    ((m.front).0, ap (known Din) whole ∙ (m.front).1)).goes in
    record {
      taken = m.taken ++ g.taken;
      cut = m.cut ∙ (ap (λ xs. m.taken ++ xs) g.front ∙ sym (append_assoc m.taken g.taken left));
      told = m.told ++ g.fresh;
      stands = subst (λ (bs : List ℕ). LineStands reader_now bs (m.told ++ g.fresh))
          (append_assoc bytes m.taken g.taken) g.stands;
      front = ((g.still).0, sym (ap (known Din) whole) ∙ (g.still).1);
      counted = subst (λ (ms : List Sign). Counted counts_now ms)
          (ap (λ ts. known_signs m.told ++ told_signs ts) (sym g.answer_is)
          ∙ (ap (λ ms. known_signs m.told ++ ms) (sym (known_signs-bare g.fresh))
          ∙ sym (known_signs-append m.told g.fresh)))
          (count (known_signs m.told) m.counted);
    }

-- all was told
pub midway-whole : (reader reader_now : State) (counts : Counts) (bytes piece rest left : List ℕ) →
    NextSays reader reader_now rest left [] → reader_now.offset + length left ≡ reader.offset + length rest →
    DinAllTold reader rest → left ≡ [] → Midway reader counts bytes piece rest →
    ReadStands reader_now counts (bytes ++ piece)
midway-whole reader reader_now counts bytes piece rest left says ends all none m =
    let whole : (bytes ++ m.taken) ++ rest ≡ bytes ++ piece = append_assoc bytes m.taken rest
    ∙ ap (λ xs. bytes ++ xs) (sym m.cut) in
    let told_is : m.told ≡ known Din (bytes ++ piece) =
    line-all_told reader rest all (bytes ++ m.taken) m.told m.stands
    ((m.front).0, ap (known Din) whole ∙ (m.front).1) ∙ ap (known Din) whole in
    let g = (line-goes reader reader_now rest left [] says ends (bytes ++ m.taken) m.told m.stands
    ((m.front).0, ap (known Din) whole ∙ (m.front).1)).goes in
    let fresh_is : g.fresh ≡ [] = no-fresh g.fresh g.answer_is in
    let taken_is : (bytes ++ m.taken) ++ g.taken ≡ bytes ++ piece =
    ap (λ xs. (bytes ++ m.taken) ++ xs) (sym (g.front ∙ (ap (λ xs. g.taken ++ xs) none ∙ append-nil g.taken)))
    ∙ whole in
    record {
      reads = subst (λ (ks : List Known). LineStands reader_now (bytes ++ piece) ks)
          (ap (λ ks. m.told ++ ks) fresh_is ∙ (append-nil m.told ∙ told_is))
          (subst (λ (bs : List ℕ). LineStands reader_now bs (m.told ++ g.fresh)) taken_is g.stands);
      counted = subst (λ (ks : List Known). Counted counts (known_signs ks)) told_is m.counted;
    }
  where
    no-fresh : (ks : List Known) → map bare_told ks ≡ [] → ks ≡ []
    no-fresh [] e = refl
    no-fresh (k ∷ ks) e = cc

number_of-more : (b : Bool) (n m : ℕ) → n ≤ m → n + (if b then 1 else 0) ≤ suc m
number_of-more true n m h = omega arith
number_of-more false n m h = omega arith

number_of-few : (p : Sign → Bool) (ms : List Sign) → number_of p ms ≤ length ms
number_of-few p [] = omega arith
number_of-few p (m ∷ ms) = number_of-more (p m) (number_of p ms) (length ms) (number_of-few p ms)

marks-few : (told : List Known) (bytes : List ℕ) → IsFront told (known Din bytes) → length bytes ≤ 2 ^ 62 →
    length (known_signs told) ≤ 2 ^ 63
marks-few told bytes front few =
    omega (
      arith,
      ap (λ ks. length (known_signs ks)) front.1,
      ap length (known_signs-append told front.0),
      length-append (known_signs told) (known_signs front.0),
      ap length (marks-end bytes),
      length-append (known_signs (known Din bytes)) (told_signs (end_told Din bytes)),
      two_a_byte bytes,
      few,
    )

counted-few : (counts : Counts) (marks : List Sign) → Counted counts marks → length marks ≤ 2 ^ 63 → HasRoom counts
counted-few counts marks h few =
    record {
      msg = omega (arith, h.messages, number_of-few is_short_sign marks, few);
      syx = omega (arith, h.complete, number_of-few is_end marks, few);
      broken = omega (arith, h.broken_off, number_of-few is_abort marks, few);
      rt = omega (arith, h.realtimes, number_of-few is_rt marks, few);
    }

pub midway-few : (reader : State) (counts : Counts) (bytes piece rest : List ℕ) → length (bytes ++ piece) ≤ 2 ^ 62 →
    Midway reader counts bytes piece rest → HasRoom counts
midway-few reader counts bytes piece rest few m =
    counted-few counts (known_signs m.told) m.counted (marks-few m.told (bytes ++ piece) m.front few)

-- the data of a SysEx count for nothing
pub run-counted : (counts : Counts) (marks : List Sign) (run : List ℕ) → Counted counts marks →
    Counted counts (marks ++ map ByteSign run)
run-counted counts marks [] h = subst (λ (ms : List Sign). Counted counts ms) (sym (append-nil marks)) h
run-counted counts marks (b ∷ run) h =
    subst (λ (ms : List Sign). Counted counts ms) (append_assoc marks (ByteSign b ∷ []) (map ByteSign run))
    (run-counted counts (marks ++ ByteSign b ∷ []) run (Counted_put counts (ByteSign b) marks h))

pub marks-told : (ms : List Sign) → told_signs (map Marks ms) ≡ ms
marks-told [] = refl
marks-told (m ∷ ms) = ap (λ xs. m ∷ xs) (marks-told ms)

-- the sums

pub mixed-append : (mix : ℕ) (xs ys : List ℕ) → mixed mix (xs ++ ys) ≡ mixed (mixed mix xs) ys
mixed-append mix [] ys = refl
mixed-append mix (x ∷ xs) ys = mixed-append ((mix * 31 + x) % 2 ^ 32) xs ys

pub stands-few : (out : SumOut) (bytes : List ℕ) → SumStands out bytes → HasRoom out.counts
stands-few out bytes h =
    counted-few out.counts (marks_so_far Din bytes) (h.read).counted
    (marks-few (known Din bytes) bytes ([], sym (append-nil (known Din bytes))) h.within)

pub sum-ended : (out ended : SumOut) (bytes : List ℕ) (answer : List Told) →
    ((entries : List Entry) → Stands out.reader entries (so_far entries) → answer ≡ at_end (last_of entries)) →
    ((marks : List Sign) → Counted out.counts marks → Counted ended.counts (marks ++ told_signs answer)) →
    ended.mix ≡ out.mix → SumStands out bytes → SumEnded ended bytes
sum-ended out ended bytes answer told count mix h =
    let all : marks_so_far Din bytes ++ told_signs answer ≡ marks_of Din bytes =
    ap (λ ts. marks_so_far Din bytes ++ told_signs ts) (told (din_payload bytes) (((h.read).reads).stands))
    ∙ sym (marks-end bytes) in
    record {
      counts = meant-counted ended.counts bytes
          (subst (λ (ms : List Sign). Counted ended.counts ms) all (count (marks_so_far Din bytes) (h.read).counted));
      mix = mix ∙ h.mix;
    }

pub sum-more : (out now : SumOut) (bytes piece : List ℕ) → now.bytes ≡ out.bytes + length piece → now.bytes ≤ 2 ^ 62 →
    now.mix ≡ mixed out.mix piece →
    (ReadStands out.reader out.counts bytes → ReadStands now.reader now.counts (bytes ++ piece)) →
    SumStands out bytes → SumStands now (bytes ++ piece)
sum-more out now bytes piece count within mix read h =
    record {
      count = omega (arith, count, h.count, length-append bytes piece);
      within = omega (arith, count, h.count, length-append bytes piece, within);
      read = read h.read;
      mix = mix ∙ (ap (λ m. mixed m piece) h.mix ∙ sym (mixed-append 0 bytes piece));
    }

-- some bytes of a piece were taken

pub took-some : (out now : SumOut) (piece : List ℕ) →
    ((bytes : List ℕ) → SumStands out bytes → SumStands now (bytes ++ piece)) → refusals_of now ≡ refusals_of out →
    SumTook out piece now
took-some out now piece stands same = record { stands = stands; never = λ bytes h small. same }

-- it took as many as it takes in all, and refused once
pub took-full : (out now refused : SumOut) (piece : List ℕ) →
    ((bytes : List ℕ) → SumStands out bytes → SumStands now (bytes ++ piece)) →
    ((bytes : List ℕ) → SumStands now bytes → SumStands refused bytes) → out.bytes + length piece ≡ 2 ^ 62 →
    SumTook out piece refused
took-full out now refused piece stands keeps full =
    record {
      stands = λ bytes h. keeps (bytes ++ piece) (stands bytes h);
      never = λ bytes h small. absurd (omega (arith, small, full, h.count, length-append bytes piece));
    }
