-- What is written so far of a list is all that is written of a first part of it.
use Rattle.std.proofs.Common.{◌≡◌, ℕ, ◌+◌, ◌≤◌, inl, inr, Bool, true, false, List, [], ◌∷◌, ◌++◌, length, refl, ap, sym}
use Rattle.std.proofs.Common.{subst, ◌∙◌, arith, append_assoc}
use Rattle.std.specs.Prelude.{◌||◌, nat_lt, if◌then◌else◌}
use Rattle.std.proofs.lemmas.List.{append-nil, length-append}
use Rattle.std.proofs.lemmas.Bool.Decides.{nat_tests}
use Rattle.mb_stream.specs.Puts.{Put, At, Flush}
use Rattle.mb_ble.specs.Written.{Spelled, spelling, content, header, ends, is_far, falls, has_fallen, last_stamp, stamp}
use Rattle.mb_ble.specs.Written.{ble_live, ble_written}
use Rattle.mb_ble.specs.Running.{flushed, given_at, under_way_at, live, under_way}
use Rattle.mb_ble.specs.UnderWay.{is_abort}
use Rattle.mb_ble.specs.HeldBack.{IsOnePacket, HeldBack}
use Rattle.mb_ble.proofs.WriterLemmas.{short_spelling}
use Rattle.mb_ble.proofs.Live.{live-push, under_way-push, at_abort, at_spelled, live_law, written_law}

-- the packet under way fits
abbrev Fits : ℕ → List Spelled → Type 0
Fits n before = 1 + length (content before) ≤ n

not-long : (n c s : ℕ) (rest : Bool) → (nat_lt n (1 + c + s) || rest) ≡ false → 1 + (c + s) ≤ n
not-long n c s rest e = grind (arith, nat_tests)

fits-more : (n : ℕ) (before : List Spelled) (x : Spelled) → 5 ≤ n → ends n before x ≡ false → Fits n (x ∷ before)
fits-more n [] x least e = omega (
  arith,
  least,
  short_spelling (Rattle.mb_ble.specs.Written.running_of []) x.moment
      x.mark,
)
fits-more n (y ∷ before) x least e =
    omega (
      arith,
      length-append (content (y ∷ before)) (spelling (y ∷ before) x),
      not-long n (length (content (y ∷ before))) (length (spelling (y ∷ before) x)) (is_far (last_stamp (y ∷ before))
          (stamp x) || Rattle.std.specs.Prelude.◌&&◌ (falls (last_stamp (y ∷ before)) (stamp x))
          (has_fallen (y ∷ before))) e,
    )

-- done: what was written; cur: what the packet under way has
record So (n : ℕ) (done cur : List Put) (before : List Spelled) : Type 0 where
  pub live_is : live n (done ++ cur) ≡ ble_written n done
  pub under : under_way n (done ++ cur) ≡ before
  pub own : under_way n cur ≡ before
  pub none : live n cur ≡ []
  pub fits : Fits n before

written-live : (n : ℕ) (puts : List Put) → ble_written n puts ≡ live n puts ++ flushed (under_way n puts)
written-live n puts = written_law n puts ∙ ap (λ z. z ++ flushed (under_way n puts)) (live_law n puts)

-- all of it is done
so-flush : (n : ℕ) (all : List Put) → 5 ≤ n → under_way n all ≡ [] → So n all [] []
so-flush n all least e = record {
  live_is = ap (live n) (append-nil all) ∙ (sym (append-nil (live n all)) ∙ (ap (λ b. live n all ++ flushed b) (sym e) ∙
      sym (written-live n all)));
  under = ap (under_way n) (append-nil all) ∙ e;
  own = refl;
  none = refl;
  fits = omega (arith, least);
}

-- a put that goes on with the packet under way
so-goes_on : (n : ℕ) (done cur : List Put) (before next : List Spelled) (p : Put) → So n done cur before →
    given_at n before p ≡ [] → under_way_at n before p ≡ next → Fits n next → So n done (cur ++ p ∷ []) next
so-goes_on n done cur before next p s g u f =
    let same : done ++ (cur ++ p ∷ []) ≡ (done ++ cur) ++ p ∷ [] = sym (append_assoc done cur (p ∷ [])) in
    record {
      live_is =
          ap (live n) same ∙ (live-push n [] (done ++ cur) p ∙
          (ap (λ b. live n (done ++ cur) ++ given_at n b p) s.under ∙ (ap (λ z. live n (done ++ cur) ++ z) g ∙
          (append-nil (live n (done ++ cur)) ∙ s.live_is))));
      under = ap (under_way n) same ∙ (under_way-push n [] (done ++ cur) p ∙ (ap (λ b. under_way_at n b p) s.under ∙
          u));
      own = under_way-push n [] cur p ∙ (ap (λ b. under_way_at n b p) s.own ∙ u);
      none = live-push n [] cur p ∙ (ap (λ b. live n cur ++ given_at n b p) s.own ∙ (ap (λ z. live n cur ++ z) g ∙
          (append-nil (live n cur) ∙ s.none)));
      fits = f;
    }

-- a put that ends it
so-ends : (n : ℕ) (done cur : List Put) (before : List Spelled) (x : Spelled) (p : Put) → So n done cur before →
    given_at n before p ≡ flushed before → under_way_at n before p ≡ x ∷ [] →
    given_at n [] p ≡ [] → under_way_at n [] p ≡ x ∷ [] → Fits n (x ∷ []) → So n (done ++ cur) (p ∷ []) (x ∷ [])
so-ends n done cur before x p s g u g0 u0 f =
    record {
      live_is =
          live-push n [] (done ++ cur) p ∙ (ap (λ b. live n (done ++ cur) ++ given_at n b p) s.under ∙
          (ap (λ z. live n (done ++ cur) ++ z) (g ∙ ap flushed (sym s.under)) ∙
          sym (written-live n (done ++ cur))));
      under = under_way-push n [] (done ++ cur) p ∙ (ap (λ b. under_way_at n b p) s.under ∙ u);
      own = u0;
      none = append-nil (given_at n [] p) ∙ g0;
      fits = f;
    }

record Split (n : ℕ) (puts : List Put) : Type 0 where
  pub done : List Put
  pub cur : List Put
  pub before : List Spelled
  pub all : puts ≡ done ++ cur
  pub so : So n done cur before

split-step : (n : ℕ) (done cur : List Put) (before : List Spelled) (p : Put) → 5 ≤ n → So n done cur before →
    Split n ((done ++ cur) ++ p ∷ [])
split-step n done cur before Flush least s = record {
  done = (done ++ cur) ++ Flush ∷ [];
  cur = [];
  before = [];
  all = sym (append-nil ((done ++ cur) ++ Flush ∷ []));
  so = so-flush n ((done ++ cur) ++ Flush ∷ []) least (under_way-push n [] (done ++ cur) Flush);
}
split-step n done cur before (At moment mark) least s = by (is_abort mark) refl
    (ends n before (record { moment = moment; mark = mark })) refl
  where
    x : Spelled
    x = record { moment = moment; mark = mark }

    goes_on : (next : List Spelled) → given_at n before (At moment mark) ≡ [] → under_way_at n before (At moment mark) ≡
        next → Fits n next → Split n ((done ++ cur) ++ At moment mark ∷ [])
    goes_on next g u f = record {
      done = done;
      cur = cur ++ At moment mark ∷ [];
      before = next;
      all = append_assoc done cur (At moment mark ∷ []);
      so = so-goes_on n done cur before next (At moment mark) s g u f;
    }

    by : (a : Bool) → is_abort mark ≡ a → (e : Bool) → ends n before (record { moment = moment; mark = mark }) ≡ e →
        Split n ((done ++ cur) ++ At moment mark ∷ [])
    by true a e is = goes_on before (at_abort n before moment mark a).1 (at_abort n before moment mark a).0 s.fits
    by false a false is =
        let z = at_spelled n before moment mark a in
        goes_on (record { moment = moment; mark = mark } ∷ before) (z.1 ∙ ap (λ c. if c then flushed before else []) is)
        (z.0 ∙ ap (λ c. if c then record { moment = moment; mark = mark } ∷ [] else record {
          moment = moment;
          mark =
              mark;
        } ∷ before) is)
        (fits-more n before (record { moment = moment; mark = mark }) least is)
    by false a true is =
        let z = at_spelled n before moment mark a in
        let w = at_spelled n [] moment mark a in
        record {
          done = done ++ cur;
          cur = At moment mark ∷ [];
          before = record { moment = moment; mark = mark } ∷ [];
          all = refl;
          so = so-ends n done cur before (record { moment = moment; mark = mark }) (At moment mark) s (z.1 ∙
              ap (λ c. if c then flushed before else []) is)
              (z.0 ∙ ap (λ c. if c then record { moment = moment; mark = mark } ∷ [] else record {
                moment = moment;
                mark = mark;
              } ∷ before) is) w.1 w.0
              (fits-more n [] (record { moment = moment; mark = mark }) least refl);
        }

split-from : (n : ℕ) (start puts : List Put) → 5 ≤ n → Split n start → Split n (start ++ puts)
split-from n start [] least s = subst (Split n) (sym (append-nil start)) s
split-from n start (p ∷ puts) least s =
    subst (Split n) (append_assoc start (p ∷ []) puts)
    (split-from n (start ++ p ∷ []) puts least (subst (λ z. Split n (z ++ p ∷ [])) (sym s.all)
    (split-step n s.done s.cur s.before p least s.so)))

split_of : (n : ℕ) (puts : List Put) → 5 ≤ n → Split n puts
split_of n puts least = split-from n [] puts least (record {
  done = [];
  cur = [];
  before = [];
  all = refl;
  so =
      so-flush n [] least refl;
})

one_packet : (n : ℕ) (before : List Spelled) → Fits n before → IsOnePacket n (flushed before)
one_packet n [] f = record { content = []; fits = omega (arith, f); is = inl refl }
one_packet n (x ∷ before) f = record {
  content = header (x ∷ before) ∷ content (x ∷ before);
  fits = omega (arith, f);
  is = inr refl;
}

pub held_back : (n : ℕ) (puts : List Put) → 5 ≤ n → HeldBack n puts
held_back n puts least =
    let s = split_of n puts least in
    let held : ble_written n s.cur ≡ flushed s.before = written-live n s.cur ∙
    (ap (λ z. z ++ flushed (under_way n s.cur)) s.so.none ∙ ap flushed s.so.own) in
    let live_is : ble_live n puts ≡ ble_written n s.done = live_law n puts ∙ (ap (live n) s.all ∙ s.so.live_is) in
    record {
      shown = s.done;
      held = s.cur;
      split = record {
        all = s.all;
        live_is = live_is;
        nothing = live_law n s.cur ∙ s.so.none;
        packet = subst (IsOnePacket n) (sym held) (one_packet n s.before s.so.fits);
        written_is = written_law n puts ∙ (ap (λ z. z ++ flushed (under_way n puts)) live_is ∙
            ap (λ z. ble_written n s.done ++ z) (ap (λ z. flushed (under_way n z)) s.all ∙
            (ap flushed s.so.under ∙ sym held)));
      };
    }
