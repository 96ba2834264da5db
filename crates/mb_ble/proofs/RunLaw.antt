-- A run that was handed to the reader of groups.
use Rattle.std.proofs.Common.{◌≡◌, ℕ, zero, suc, ◌+◌, ◌-◌, ◌*◌, ◌<◌, ◌≤◌, Bool, true, false, Option, Some, None, List}
use Rattle.std.proofs.Common.{[], ◌∷◌, ◌++◌, length, map, refl, ap, ap₂, sym, subst, ◌∙◌, arith, append_assoc}
use Rattle.std.proofs.Common.{append-nil, inl, inr}
use Rattle.std.specs.Prelude.{if◌then◌else◌, nat_lt, ◌==◌, ◌&&◌, ◌||◌, ◌⊎◌, is_none, take, drop, IfNone, IfSome, OnSome}
use Rattle.mb_message.specs.Bytes.{is_status, is_data, is_channel}
use Rattle.mb_message.specs.Signs.{ByteSign}
use Rattle.mb_message.specs.declared.event.Ev.TheVariants as ev
use Rattle.mb_message.specs.declared.event.Seen.{Seen}
use Rattle.mb_message.specs.declared.event.Seen.TheVariants as seen
use Rattle.mb_ble.proofs.Base.{so_far-append, rises-to, rises-from}
use Rattle.mb_din.specs.Reader.{Stands, DinGoes, RunNext, is_all_data}
use Rattle.mb_din.specs.Turn.{data_front}
use Rattle.mb_din.specs.State.{State, owed, owed_of, open_now}
use Rattle.mb_din.specs.declared.progress.Progress.{Progress}
use Rattle.mb_din.specs.declared.progress.Progress.TheVariants.{Idle, Running, Begun, InSysex}
use Rattle.mb_stream.specs.ReaderLaw.{NoDataNext, IsLongest, StatusNext, answer, begins_run, breaks}
use Rattle.mb_stream.proofs.OrderLemmas.{Each-append}
use Rattle.mb_stream.specs.Groups.{Group, last_of}
use Rattle.mb_stream.specs.Payload.{Entry, heard_from}
use Rattle.mb_stream.specs.Reading.{so_far}
use Rattle.mb_stream.specs.Told.{Told, Marks, Known, begun_at, is_channel_group, may_run}
use Rattle.mb_stream.specs.Working.{news}
use Rattle.std.proofs.lemmas.Bool.Decides.{nat_tests}
use Rattle.mb_stream.specs.Working as stream
use Rattle.mb_ble.specs.Packets.{Token, Data, tokens, clock, payload, spot}
use Rattle.mb_ble.specs.Reading.{lone}
use Rattle.mb_ble.specs.News.{token_news, news_from}
use Rattle.mb_ble.specs.Content.{Hands, advanced}
use Rattle.mb_ble.specs.Stands.{is_heady, last, Holds, Read, Reads, MayRun, HasOpen}
use Rattle.mb_ble.specs.declared.content.Content.{Content}
use Rattle.mb_ble.specs.declared.content.Head.TheVariants as head
use Rattle.mb_ble.proofs.Fronts.{Not, none-early, data-not, front-off}
use Rattle.mb_ble.proofs.Small.{read-none, later-not, rest_stands}
use Rattle.mb_ble.proofs.Bytes.{Ready, ready}
use Rattle.mb_ble.proofs.Whole.{take-drop, drop-front, length-take, length-append}
use Rattle.mb_ble.proofs.Sysex.{Low, low-front, low-back, heard-from, RunDined, run_dined, run_taken, never_full}
use Rattle.mb_ble.proofs.Sysex.{sysex-never}
use Rattle.mb_message.specs.Front.{IsFront}
use Rattle.mb_frames.specs.Counting.{rest_parts}
use Rattle.mb_ble.specs.State.{stamp_owed, content_owed}

abbrev stepped : Content → ℕ → Content
stepped c k = record c { offset = c.offset + k; head = head.Inside }

advanced-zero : (c : Content) (n : ℕ) → n ≡ 0 → advanced c n ≡ c
advanced-zero c n e = ap (λ k. advanced c k) e

advanced-some : (c : Content) (n : ℕ) → 0 < n → advanced c n ≡ record c { offset = c.offset + n; head = head.Inside }
advanced-some c n pos = ap (λ b. if b then c else record c { offset = c.offset + n; head = head.Inside })
    (not_zero n pos)
  where
    not_zero : (n : ℕ) → 0 < n → (n == 0) ≡ false
    not_zero n pos = grind (arith, nat_tests)

-- what is left of the piece
pos_len : (input : List ℕ) (len : ℕ) → 0 < length input → take len input ≡ data_front input →
    ((b : ℕ) (bs : List ℕ) → input ≡ b ∷ bs → nat_lt b 128 ≡ true) → 0 < len
pos_len [] len pos e lows = absurd (omega (arith, pos))
pos_len (b ∷ bs) zero pos e lows = absurd (nil_cons b (data_front bs) (e ∙ ap (λ d. if d then b ∷ data_front bs else [])
    (lows b bs refl)))
  where
    nil_cons : (x : ℕ) (xs : List ℕ) → [] ≡ x ∷ xs → ⊥
    nil_cons x xs e = cc
pos_len (b ∷ bs) (suc len) pos e lows = omega arith

first-of : (len b : ℕ) (bs : List ℕ) → 0 < len → (k : ℕ) × (take len (b ∷ bs) ≡ b ∷ take k bs)
first-of zero b bs pos = absurd (omega (arith, pos))
first-of (suc n) b bs pos = (n, refl)

-- an open SysEx, or a channel status that runs
abbrev pub Never : State → Type 0
Never s = (entries : List Entry) → Stands s entries (so_far entries) → never_full (last_of entries) ≡ true

running-never : (g : Group) → may_run g ≡ true → never_full g ≡ true
running-never g e = by g.status (is_none (begun_at g)) e
  where
    by : (st : Option ℕ) (none : Bool) → (is_channel_group st && none) ≡ true →
        (elim st as (λ _. Bool) [ None ↦ true | Some s ↦ is_channel s || (s == 0xf0) ]) ≡ true
    by None none e = refl
    by (Some s) none e = ap (λ c. c || (s == 0xf0)) (left (is_channel s) none e)
      where
        left : (a c : Bool) → (a && c) ≡ true → a ≡ true
        left true c e = refl
        left false c e = e

pub never_of : (s : State) → HasOpen s true ⊎ MayRun s true → Never s
never_of s (inl h) = λ entries st. sysex-never (last_of entries) (h entries st)
never_of s (inr m) = λ entries st. running-never (last_of entries) (m entries st)

pub low-all : (xs : List ℕ) → is_all_data xs ≡ true → Low xs
low-all [] e = tt
low-all (x ∷ xs) e = by (is_data x) refl e (λ h. low-all xs h)
  where
    false≢true : false ≡ true → ⊥
    false≢true e = cc

    by : (d : Bool) → is_data x ≡ d → (d && is_all_data xs) ≡ true → (is_all_data xs ≡ true → Low xs) → Low (x ∷ xs)
    by true is e more = (is, more e)
    by false is e more = absurd (false≢true e)

all-data : (xs : List ℕ) → is_all_data (data_front xs) ≡ true
all-data [] = refl
all-data (x ∷ xs) = by (is_data x) refl (all-data xs)
  where
    by : (d : Bool) → is_data x ≡ d → is_all_data (data_front xs) ≡ true → is_all_data (if d then x ∷ data_front xs else
        []) ≡ true
    by true is more = ap (λ d. d && is_all_data (data_front xs)) is ∙ more
    by false is more = refl

pub all-front : (xs ys : List ℕ) → ys ≡ data_front xs → is_all_data ys ≡ true
all-front xs ys e = ap is_all_data e ∙ all-data xs

pub some-front : (xs : List ℕ) (len : ℕ) → take len xs ≡ data_front xs → 0 < length xs →
    ((b : ℕ) (bs : List ℕ) → xs ≡ b ∷ bs → nat_lt b 128 ≡ true) → 0 < len
some-front xs len e pos lows = pos_len xs len pos e lows

pub run_law : (was mid now : Content) (input handed left final : List ℕ) (len used : ℕ) (seen : List Told) → 0 < len →
    len ≤ length input → Low handed → handed ≡ take len input → used ≡ len - length left → final ≡ drop used input →
    Hands was.din mid.din was.offset handed left seen → mid ≡ record was { din = mid.din } → now ≡ advanced mid used →
    is_heady was.head ≡ false →
    ((at b : ℕ) (bs : List ℕ) → input ≡ b ∷ bs → was.head ≡ head.Stamped at → nat_lt b 128 ≡ true →
    MayRun was.din true) → Never was.din → Reads was now input final seen
run_law was mid now [] handed left final len used seen pos short handed_low piece u fin hands is moves a lone
    never_law = absurd (omega (arith, pos, short))
run_law was mid now (b ∷ bs) handed left final len used seen pos short handed_low piece u fin hands is moves a lone
    never_law = record {
      reads = λ before told room following holds fits front. by before told room following holds fits
          front;
    }
  where
    first : (k : ℕ) × (take len (b ∷ bs) ≡ b ∷ take k bs)
    first = first-of len b bs pos

    handed_is : handed ≡ b ∷ take first.0 bs
    handed_is = piece ∙ first.1

    low : nat_lt b 128 ≡ true
    low = (subst Low handed_is handed_low).0

    beyond : List ℕ
    beyond = drop len (b ∷ bs)

    cut : b ∷ bs ≡ handed ++ beyond
    cut = take-drop len (b ∷ bs) ∙ ap (λ z. z ++ beyond) (sym piece)

    size : length handed ≡ len
    size = ap length piece ∙ length-take len (b ∷ bs) short

    by : (before : List Token) (told : List Known) (room : ℕ) (following : List ℕ) → Holds was before told →
        length (b ∷ bs) ≤ room → IsFront told (news_from before (tokens was.offset (last before)
        (rest_parts room ((b ∷ bs) ++ following)))) → Read was now (b ∷ bs) final seen before told room following
    by before told zero following holds fits front = absurd (omega arith)
    by before told (suc room) following holds fits front = with_taken g.taken g.front (run_dined hands.placed mid.din
        handed left seen es o m hands.there hands.offset placed handed_low g)
      where
        o : ℕ
        o = was.offset

        m : ℕ
        m = (clock before).moment

        es : List Entry
        es = payload before

        t : Token
        t = Data was.offset b

        r0 : Ready was b before holds.stamp (Data was.offset b)
        r0 = ready was.head was b before told room (bs ++ following) refl a (λ e. low) (λ at e l. lone at b bs refl e l)
            holds true low front

        rest : List Known
        rest = news_from (t ∷ before) (tokens (was.offset + 1) t (rest_parts room (bs ++ following)))

        ns : List Known
        ns = news (last_of es) (spot before was.offset b)

        there : IsFront (holds.stamp ++ holds.early) (holds.stamp ++ (ns ++ rest))
        there = subst (λ z. IsFront z (holds.stamp ++ (ns ++ rest))) holds.told_is (subst (λ z. IsFront told z)
            (ap (λ z. (z ++ ns) ++ rest) r0.note ∙ append_assoc holds.stamp ns rest)
            (subst (λ u. IsFront told (token_news before u ++
            news_from (u ∷ before) (tokens (o + 1) u (rest_parts room (bs ++ following))))) r0.kind front))

        early : holds.early ≡ []
        early = none-early o holds.early (ns ++ rest) holds.are_early (front-off holds.stamp holds.early (ns ++ rest)
            there) (Each-append (Not o) ns rest (data-not (last_of es) (spot before o b) low) (later-not (t ∷ before) t
            o room (bs ++ following)))

        told_is : told ≡ holds.stamp
        told_is = holds.told_is ∙ ap (λ z. holds.stamp ++ z) early ∙ append-nil holds.stamp

        stands : Stands was.din es (so_far es)
        stands = rest_stands was before told holds early

        placed : Stands hands.placed es (so_far es)
        placed = hands.place es (so_far es) (inr refl) stands

        grows : so_far (es ++ heard_from hands.placed.offset m handed) ≡ so_far es ++
            stream.news_from (last_of es) (heard_from hands.placed.offset m handed)
        grows = so_far-append es (heard_from hands.placed.offset m handed) (rises-to 0 hands.placed.offset es
            (heard_from hands.placed.offset m handed) placed.rises (heard-from hands.placed.offset m handed
            hands.placed.offset (omega arith))) (rises-from 0 hands.placed.offset es placed.rises)

        g : DinGoes hands.placed mid.din m handed left seen es (so_far es) (heard_from o m handed)
        g = subst (λ n. DinGoes hands.placed mid.din m handed left seen es (so_far es) (heard_from n m handed))
            hands.there (hands.next m es (so_far es) placed ((
              stream.news_from (last_of es)
                  (heard_from hands.placed.offset m handed),
              grows,
            )))

        with_taken : (T : List ℕ) → handed ≡ T ++ left → RunDined mid.din T seen es o m →
            Read was now (b ∷ bs) final seen before told (suc room) following
        with_taken [] f d =
            let none : used ≡ 0 = omega (arith, u, size, ap length f) in
            let fin_is : final ≡ b ∷ bs = fin ∙ ap (λ n. drop n (b ∷ bs)) none in
            let now_is : now ≡ record was { din = mid.din } = moves ∙ advanced-zero mid used none ∙ is in
            let quiet : seen ≡ [] = sym d.answer_is ∙ ap (map (λ (k : Known). k.told)) d.fresh_is in
            subst (λ z. Read was now (b ∷ bs) z seen before told (suc room) following) (sym fin_is)
            (subst (λ c. Read was c (b ∷ bs) (b ∷ bs) seen before told (suc room) following) (sym now_is)
            (subst (λ ts. Read was (record was { din = mid.din }) (b ∷ bs) (b ∷ bs) ts before told (suc room)
            following) (sym quiet)
            (read-none was (record was { din = mid.din }) (b ∷ bs) [] before told (suc room) following [] refl
            (record {
              clock_is = holds.clock_is;
              running_is = holds.running_is;
              runs = holds.runs;
              kind = holds.kind;
              stamp = holds.stamp;
              early = [];
              told_is = append-nil told ∙ told_is ∙ sym (append-nil holds.stamp);
              stamp_is = holds.stamp_is;
              din = subst (λ z. Stands mid.din es z) (sym (append-nil (so_far es)))
                  (subst (λ z. Stands mid.din z (so_far z)) (append-nil es) d.stands);
              are_early = tt;
              here = inl refl;
              low = zero-off d.offset;
              rested = λ e. refl;
            })
            refl (subst (λ z. IsFront z (news_from before (tokens o (last before) (rest_parts (suc room) ((b ∷ bs) ++
            following))))) (sym (append-nil told)) front))))
          where
            zero-off : mid.din.offset ≡ o + length {A = ℕ} [] → mid.din.offset ≤ o
            zero-off e = omega (arith, e)
        with_taken (y ∷ T) f d =
            let same : b ∷ take first.0 bs ≡ y ∷ (T ++ left) = sym handed_is ∙ f in
            let y_is : y ≡ b = sym (heads b y (take first.0 bs) (T ++ left) same) in
            let f' : handed ≡ (b ∷ T) ++ left = f ∙ ap (λ z. z ∷ (T ++ left)) y_is in
            let d' : RunDined mid.din (b ∷ T) seen es o m = subst (λ z. RunDined mid.din (z ∷ T) seen es o m) y_is d in
            let n : used ≡ length (b ∷ T) = counts used len (length handed) (length (b ∷ T)) (length left) u size
            (ap length f' ∙ length-append (b ∷ T) left) in
            let whole : b ∷ bs ≡ (b ∷ T) ++ (left ++ beyond) = cut ∙ ap (λ z. z ++ beyond) f' ∙
            append_assoc (b ∷ T) left beyond in
            let final_is : final ≡ left ++ beyond = fin ∙ ap₂ drop n whole ∙ drop-front (b ∷ T) (left ++ beyond) in
            let now_is : now ≡ record was { offset = o + length (b ∷ T); head = head.Inside; din = mid.din } =
            moves ∙ advanced-some mid used (omega (arith, n)) ∙ ap₂ stepped is n in
            let lows2 : Low (b ∷ T) = low-front (b ∷ T) left (subst Low f' handed_low) in
            let op : never_full (last_of es) ≡ true = never_law es stands in
            subst (λ z. Read was now (b ∷ bs) z seen before told (suc room) following) (sym final_is)
            (subst (λ z. Read was now z (left ++ beyond) seen before told (suc room) following) (sym whole)
            (run_taken was now b T (left ++ beyond) seen before told (suc room) following holds.stamp mid.din holds low
            lows2.1 r0.kind (r0.note ∙ sym told_is) op (fits_in (length (b ∷ bs)) (length (b ∷ T))
            (length (left ++ beyond)) (suc room) (ap length whole ∙ length-append (b ∷ T) (left ++ beyond)) fits) d'
            now_is))
          where
            heads : (a c : ℕ) (xs ys : List ℕ) → a ∷ xs ≡ c ∷ ys → a ≡ c
            heads a c xs ys e = cc

            counts : (u l h t r : ℕ) → u ≡ l - r → h ≡ l → h ≡ t + r → u ≡ t
            counts u l h t r x y z = omega (arith, x, y, z)

            fits_in : (i k r n : ℕ) → i ≡ k + r → i ≤ n → k ≤ n
            fits_in i k r n x y = omega (arith, x, y)

length-drop : (n : ℕ) (xs : List ℕ) → n ≤ length xs → length (drop n xs) + n ≡ length xs
length-drop zero xs le = omega arith
length-drop (suc n) [] le = absurd (omega arith)
length-drop (suc n) (x ∷ xs) le = omega (arith, length-drop n xs (omega arith))

pub run_none : (r : Option Seen) (input left final : List ℕ) (len used : ℕ) → IfNone r (left ≡ []) → 0 < len →
    len ≤ length input → used ≡ len - length left → final ≡ drop used input →
    IfNone r (length final < length input)
run_none (Some s) input left final len used n pos short u fin = tt
run_none None input left final len used n pos short u fin =
    let all : used ≡ len = omega (arith, u, ap length n) in
    let same : length final ≡ length (drop len input) = ap length fin ∙ ap (λ k. length (drop k input)) all in
    omega (arith, same, length-drop len input short, pos)

low-none : (xs : List ℕ) → Low xs → NoDataNext xs → xs ≡ []
low-none [] l e = refl
low-none (x ∷ xs) l e = absurd (no (sym l.0 ∙ e))
  where
    no : true ≡ false → ⊥
    no e = cc

front-none : (xs : List ℕ) → data_front xs ≡ [] → NoDataNext xs
front-none [] e = tt
front-none (x ∷ xs) e = by (nat_lt x 128) refl
  where
    cons_nil : (x : ℕ) (xs : List ℕ) → x ∷ xs ≡ [] → ⊥
    cons_nil x xs e = cc

    by : (d : Bool) → nat_lt x 128 ≡ d → nat_lt x 128 ≡ false
    by true is = absurd (cons_nil x (data_front xs) (sym (ap (λ d. if d then x ∷ data_front xs else []) is) ∙ e))
    by false is = is

pub run_longest : (r : Option Seen) (was : State) (input handed left final taken : List ℕ) (len used : ℕ) →
    IfSome r (IsLongest left) → OnSome r (answer r ≡ [] → ⊥) → (begins_run (answer r) ≡ true → RunNext was handed) →
    handed ≡ taken ++ left → handed ≡ take len input → Low handed →
    (open_now was ≡ true → data_front (drop len input) ≡ []) → used ≡ len - length left → final ≡ drop used input →
    IfSome r (IsLongest final)
run_longest None was input handed left final taken len used n some runs f piece lows last u fin = tt
run_longest (Some (seen.Note x)) was input handed left final taken len used n some runs f piece lows last u fin = tt
run_longest (Some (seen.Ev (ev.Short x))) was input handed left final taken len used n some runs f piece lows last u
    fin = tt
run_longest (Some (seen.Ev (ev.Rt x))) was input handed left final taken len used n some runs f piece lows last u fin =
    tt
run_longest (Some (seen.Ev ev.Open)) was input handed left final taken len used n some runs f piece lows last u fin = tt
run_longest (Some (seen.Ev ev.End)) was input handed left final taken len used n some runs f piece lows last u fin = tt
run_longest (Some (seen.Ev ev.Abort)) was input handed left final taken len used n some runs f piece lows last u fin =
    tt
run_longest (Some (seen.Ev (ev.Run x))) was input handed left final taken len used n some runs f piece lows last u fin =
    let none : left ≡ [] = low-none left (low-back taken left (subst Low f lows)) n in
    let all : used ≡ len = omega (arith, u, ap length none) in
    subst NoDataNext (sym (fin ∙ ap (λ k. drop k input) all)) (front-none (drop len input)
    (last (opened x.now some runs)))
  where
    opened : (ys : List ℕ) → (map Marks (map ByteSign ys) ≡ [] → ⊥) → (begins_run (map Marks (map ByteSign ys)) ≡ true →
        RunNext was handed) → open_now was ≡ true
    opened [] some runs = absurd (some refl)
    opened (y ∷ ys) some runs = open_of handed (runs refl)
      where
        open_of : (zs : List ℕ) → RunNext was zs → open_now was ≡ true
        open_of [] r = absurd r
        open_of (z ∷ zs) r = r.1

-- how much is left, and may be told
owed_most : (p : Progress) → owed_of p ≤ 1
owed_most Idle = omega arith
owed_most (Running s) = omega arith
owed_most (Begun s first at) = omega arith
owed_most InSysex = omega arith

stamp-advanced : (mid : Content) (used : ℕ) → (content_owed (advanced mid used) ≤ content_owed mid)
stamp-advanced mid used = by (used == 0)
  where
    by : (z : Bool) → content_owed (if z then mid else record mid { offset = mid.offset + used; head = head.Inside }) ≤
        content_owed mid
    by true = omega arith
    by false = omega arith

pub run_falls : (r : Option Seen) (was mid now : Content) (input handed left final taken : List ℕ) (len used : ℕ) →
    OnSome r (2 * length left + owed mid.din < 2 * length handed + owed was.din) → IfNone r (left ≡ []) →
    mid ≡ record was { din = mid.din } → now ≡ advanced mid used → handed ≡ taken ++ left →
    0 < len → len ≤ length input → handed ≡ take len input → used ≡ len - length left → final ≡ drop used input →
    2 * length final + content_owed now < 2 * length input + content_owed was
run_falls r was mid now input handed left final taken len used progress none is moves cut some short piece u fin =
    by r progress none
  where
    size : length handed ≡ len
    size = ap length piece ∙ length-take len input short

    parts : length handed ≡ length taken + length left
    parts = ap length cut ∙ length-append taken left

    ends : length final + used ≡ length input
    ends = ap (λ z. length z + used) fin ∙ length-drop used input (omega (arith, u, short))

    now_owed : content_owed now ≤ owed mid.din + stamp_owed was.head
    now_owed =
        let a : content_owed now ≤ content_owed mid = subst (λ (c : Content). content_owed c ≤ content_owed mid)
        (sym moves) (stamp-advanced mid used) in
        let b : stamp_owed mid.head ≡ stamp_owed was.head = ap (λ (c : Content). stamp_owed c.head) is in
        omega (arith, a, b)

    by : (r : Option Seen) → OnSome r (2 * length left + owed mid.din < 2 * length handed + owed was.din) →
        IfNone r (left ≡ []) → 2 * length final + content_owed now < 2 * length input + content_owed was
    by (Some x) p n = omega (arith, p, size, parts, ends, now_owed, u)
    by None p n = omega (arith, ap length n, size, parts, ends, now_owed, u, some, owed_most mid.din.progress)

-- what a data byte breaks: nothing
low-status : (xs : List ℕ) → Low xs → StatusNext xs → ⊥
low-status [] l s = s
low-status (x ∷ xs) l s = no-both x l.0 s
  where
    no-both : (b : ℕ) → nat_lt b 128 ≡ true → is_status b ≡ true → ⊥
    no-both b low status = grind (arith, nat_tests)

pub run_before : {R G : Type 0} (handed left taken : List ℕ) (ts : List Told) → handed ≡ taken ++ left → Low handed →
    (breaks ts ≡ true → StatusNext left × R) → breaks ts ≡ true → G
run_before handed left taken ts f lows h b = absurd (low-status left (low-back taken left (subst Low f lows)) (h b).0)
