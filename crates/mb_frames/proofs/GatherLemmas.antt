-- One by one the same tape is written.
use Rattle.std.proofs.Common.{◌≡◌, ℕ, Bool, true, false, ◌&&◌, ◌==◌, nat_lt, if◌then◌else◌, List, [], ◌∷◌, ◌++◌, length}
use Rattle.std.proofs.Common.{flat_map, refl, sym, ◌∙◌, ap, arith, append_assoc, append-nil}
use Rattle.std.proofs.lemmas.Bool.Decides.{nat_tests}
use Rattle.std.proofs.lemmas.Grind.{flat_map-append}
use Rattle.std.proofs.lemmas.List.Folds.{flat_map-map}
use Rattle.mb_frames.specs.Tapes.{record_bytes}
use Rattle.mb_frames.specs.Gathered.{TimedByte, Stretch, alone, before, stretches, pieces, pieces_from, piece_record}
use Rattle.mb_frames.specs.Gathered.{stretch_records, gathered}
use Rattle.mb_frames.specs.Gathering.{Piece, no_piece, written_piece, ended_by, with_byte, gathering, Gathers}
use Rattle.mb_frames.specs.Gathering.{after_magic}

-- a record of a piece, and those of a stretch, as bytes

abbrev a_record : (moment : ℕ) → List ℕ → List ℕ
a_record moment bytes = record_bytes true (piece_record moment bytes)

abbrev records : Stretch → List ℕ
records s = flat_map (a_record s.moment) (pieces s.bytes)

records-bytes : (ss : List Stretch) →
    flat_map (record_bytes true) (flat_map stretch_records ss) ≡ flat_map records ss
records-bytes [] = refl
records-bytes (s ∷ ss) =
    flat_map-append (record_bytes true) (stretch_records s) (flat_map stretch_records ss) ∙
    (ap (λ z. z ++ flat_map (record_bytes true) (flat_map stretch_records ss))
    (flat_map-map (record_bytes true) (piece_record s.moment) (pieces s.bytes)) ∙
    ap (λ z. records s ++ z) (records-bytes ss))

-- a piece under way, and what follows it
abbrev cut : (moment : ℕ) → (piece bytes : List ℕ) → List ℕ
cut m q bs = flat_map (a_record m) (pieces_from q bs)

abbrev front_by : (same : Bool) → (moment : ℕ) → (piece : List ℕ) → Stretch → List Stretch → List ℕ
front_by true m q s ss = cut m q s.bytes ++ flat_map records ss
front_by false m q s ss = cut m q [] ++ flat_map records (s ∷ ss)

abbrev front : (moment : ℕ) → (piece : List ℕ) → List Stretch → List ℕ
front m q [] = cut m q []
front m q (s ∷ ss) = front_by (s.moment == m) m q s ss

same-number : (m n : ℕ) → (m == n) ≡ true → m ≡ n
same-number m n h = grind (arith, nat_tests)

equal-own : (m : ℕ) → (m == m) ≡ true
equal-own m = grind (arith, nat_tests)

-- the stretches that a byte begins
abbrev before_by : (same : Bool) → TimedByte → Stretch → List Stretch → List Stretch
before_by same t s ss = if same then (record { moment = t.moment; bytes = t.byte ∷ s.bytes }) ∷ ss else alone t ∷ s ∷ ss

records-before : (t : TimedByte) (ss : List Stretch) → flat_map records (before t ss) ≡ front t.moment (t.byte ∷ []) ss
records-before t [] = append-nil _
records-before t (s ∷ ss) = by (t.moment == s.moment) refl where
  by : (same : Bool) → (t.moment == s.moment) ≡ same → flat_map records (before_by same t s ss) ≡
      front_by (s.moment == t.moment) t.moment (t.byte ∷ []) s ss
  by true h =
      let e : (s.moment == t.moment) ≡ true = grind (arith, nat_tests) in
      sym (ap (λ (z : Bool). front_by z t.moment (t.byte ∷ []) s ss) e)
  by false h =
      let e : (s.moment == t.moment) ≡ false = grind (arith, nat_tests) in
      sym (ap (λ (z : Bool). front_by z t.moment (t.byte ∷ []) s ss) e)

-- a byte of another moment
front-other : (m : ℕ) (q : List ℕ) (t : TimedByte) (ss : List Stretch) → (t.moment == m) ≡ false →
    front m q (before t ss) ≡ cut m q [] ++ flat_map records (before t ss)
front-other m q t [] h = ap (λ (z : Bool). front_by z m q (alone t) []) h
front-other m q t (s ∷ ss) h = by (t.moment == s.moment) where
  by : (same : Bool) → front m q (before_by same t s ss) ≡ cut m q [] ++ flat_map records (before_by same t s ss)
  by true = ap (λ (z : Bool). front_by z m q (record { moment = t.moment; bytes = t.byte ∷ s.bytes }) ss) h
  by false = ap (λ (z : Bool). front_by z m q (alone t) (s ∷ ss)) h

-- a byte of the same moment, as the piece is cut there
front-same : (m : ℕ) (q : List ℕ) (t : TimedByte) (ss : List Stretch) (w r : List ℕ) → (t.moment == m) ≡ true →
    ((bs : List ℕ) → cut m q (t.byte ∷ bs) ≡ w ++ cut m r bs) → front m q (before t ss) ≡ w ++ front m r ss
front-same m q t [] w r h cuts =
    ap (λ (z : Bool). front_by z m q (alone t) []) h ∙ (append-nil (cut m q (t.byte ∷ [])) ∙ cuts [])
front-same m q t (s ∷ ss) w r h cuts = by (t.moment == s.moment) refl where
  by : (same : Bool) → (t.moment == s.moment) ≡ same → front m q (before_by same t s ss) ≡ w ++
      front_by (s.moment == m) m r s ss
  by true k =
      let e : (s.moment == m) ≡ true = grind (arith, nat_tests) in
      ap (λ (z : Bool). front_by z m q (record { moment = t.moment; bytes = t.byte ∷ s.bytes }) ss) h ∙
      (ap (λ z. z ++ flat_map records ss) (cuts s.bytes) ∙
      (append_assoc w (cut m r s.bytes) (flat_map records ss) ∙ sym (ap (λ (z : Bool). w ++ front_by z m r s ss) e)))
  by false k =
      let e : (s.moment == m) ≡ false = grind (arith, nat_tests) in
      ap (λ (z : Bool). front_by z m q (alone t) (s ∷ ss)) h ∙
      (ap (λ z. z ++ flat_map records (s ∷ ss)) (cuts []) ∙
      (append_assoc w (cut m r []) (flat_map records (s ∷ ss)) ∙ sym (ap (λ (z : Bool). w ++ front_by z m r s ss) e)))

piece_of : (m b : ℕ) (bs : List ℕ) → Piece
piece_of m b bs = record { moment = m; bytes = b ∷ bs }

abbrev step_by : (on : Bool) → Piece → TimedByte → List TimedByte → List ℕ
step_by on p t ts =
    (if on then [] else written_piece p.moment p.bytes) ++
    gathering (if on then record { moment = p.moment; bytes = p.bytes ++ t.byte ∷ [] } else record {
      moment = t.moment;
      bytes = t.byte ∷ [];
    }) ts

gathering-front : (m b : ℕ) (bs : List ℕ) (ts : List TimedByte) →
    gathering (record { moment = m; bytes = b ∷ bs }) ts ≡ front m (b ∷ bs) (stretches ts)
gathering-front m b bs [] = sym (append-nil (a_record m (b ∷ bs)))
gathering-front m b bs (t ∷ ts) = by (t.moment == m) refl (nat_lt (length (b ∷ bs)) 255) refl
    (gathering-front m b (bs ++ t.byte ∷ []) ts) (λ n. gathering-front n t.byte [] ts) where
      by : (same : Bool) → (t.moment == m) ≡ same → (room : Bool) → nat_lt (length (b ∷ bs)) 255 ≡ room →
          gathering (record { moment = m; bytes = b ∷ (bs ++ t.byte ∷ []) }) ts ≡ front m (b ∷ (bs ++ t.byte ∷ []))
          (stretches ts) →
          ((n : ℕ) → gathering (record { moment = n; bytes = t.byte ∷ [] }) ts ≡ front n (t.byte ∷ []) (stretches ts)) →
          step_by (same && room) (record { moment = m; bytes = b ∷ bs }) t ts ≡ front m (b ∷ bs)
          (before t (stretches ts))
      by true h true r on new =
          on ∙ sym (front-same m (b ∷ bs) t (stretches ts) [] (b ∷ (bs ++ t.byte ∷ [])) h (λ cs.
          ap (λ (z : Bool). flat_map (a_record m) (if z then pieces_from (b ∷ (bs ++ t.byte ∷ [])) cs else (b ∷ bs) ∷
          pieces_from (t.byte ∷ []) cs)) r))
      by true h false r on new =
          let e : t.moment ≡ m = same-number t.moment m h in
          ap (λ z. a_record m (b ∷ bs) ++ z) (new t.moment ∙ ap (λ n. front n (t.byte ∷ []) (stretches ts)) e) ∙
          sym (front-same m (b ∷ bs) t (stretches ts) (a_record m (b ∷ bs)) (t.byte ∷ []) h (λ cs.
          ap (λ (z : Bool). flat_map (a_record m) (if z then pieces_from (b ∷ (bs ++ t.byte ∷ [])) cs else (b ∷ bs) ∷
          pieces_from (t.byte ∷ []) cs)) r))
      by false h room r on new =
          ap (λ z. a_record m (b ∷ bs) ++ z) (new t.moment ∙ sym (records-before t (stretches ts))) ∙
          (ap (λ z. z ++ flat_map records (before t (stretches ts))) (sym (append-nil (a_record m (b ∷ bs)))) ∙
          sym (front-other m (b ∷ bs) t (stretches ts) h))

gathering-all : (ts : List TimedByte) → gathering no_piece ts ≡ flat_map records (stretches ts)
gathering-all [] = refl
gathering-all (t ∷ ts) = by (t.moment == 0) refl where
  by : (zero_too : Bool) → (t.moment == 0) ≡ zero_too → step_by (zero_too && nat_lt 0 255) no_piece t ts ≡
      flat_map records (before t (stretches ts))
  by true h =
      let e : 0 ≡ t.moment = sym (same-number t.moment 0 h) in
      ap (λ n. gathering (record { moment = n; bytes = t.byte ∷ [] }) ts) e ∙ (gathering-front t.moment t.byte [] ts ∙
      sym (records-before t (stretches ts)))
  by false h = gathering-front t.moment t.byte [] ts ∙ sym (records-before t (stretches ts))

pub Gathers-nothing : Gathers no_piece [] []
Gathers-nothing = record {
  rest = λ more. ap after_magic (records-bytes (stretches more) ∙ sym (gathering-all more));
}

pub Gathers-put : (p : Piece) (t : TimedByte) (ts : List TimedByte) (written : List ℕ) → Gathers p ts written →
    Gathers (with_byte p t) (ts ++ t ∷ []) (written ++ ended_by p t)
Gathers-put p t ts written h = record {
  rest = λ more.
      ap gathered (append_assoc ts (t ∷ []) more) ∙
      (h.rest (t ∷ more) ∙
      ap after_magic (sym (append_assoc written (ended_by p t) (gathering (with_byte p t) more))));
}

pub Gathers-end : (p : Piece) (ts : List TimedByte) (written : List ℕ) → Gathers p ts written →
    gathered ts ≡ after_magic (written ++ written_piece p.moment p.bytes)
Gathers-end p ts written h = ap gathered (sym (append-nil ts)) ∙ h.rest []
