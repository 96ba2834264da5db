-- What a call leaves of the handles that it isn't about, and what a handle is for that was given.
use Rattle.std.proofs.Common.{◌≡◌, ◌≢◌, ℕ, zero, suc, ◌+◌, ◌-◌, ◌≤◌, Bool, true, false, ◌==◌, Some, List}
use Rattle.std.proofs.Common.{[]}
use Rattle.std.proofs.Common.{◌∷◌, ◌++◌, length, refl, ◌∙◌, ap, arith}
use Rattle.std.specs.Prelude.{slice_get, nat_le, Option, ◌||◌, ◌&&◌}
use Rattle.std.proofs.lemmas.Bool.Decides.{nat_tests}
use Rattle.mb_outside.specs.Contents.{Contents, SameAt, with_entry, after_read, after_write, after_open, after_create}
use Rattle.mb_outside.specs.Contents.{next_handle, is_readable, is_writable, reads_given, writes_given}

-- the entries of others
with_entry-other : (entries : ℕ → List ℕ) (handle : ℕ) (bytes : List ℕ) (other : ℕ) → other ≢ handle →
    with_entry entries handle bytes other ≡ entries other
with_entry-other entries handle bytes other apart = grind (arith, nat_tests)

pub same-read : (handle n : ℕ) (c : Contents) (other : ℕ) → other ≢ handle → SameAt c (after_read handle n c) other
same-read handle n c other apart =
    record {
      left = with_entry-other c.left handle _ other apart;
      taken = with_entry-other c.taken handle _ other apart;
      written = refl;
      readable = refl;
      writable = refl;
    }

pub same-write : (handle : ℕ) (bytes : List ℕ) (c : Contents) (other : ℕ) → other ≢ handle →
    SameAt c (after_write handle bytes c) other
same-write handle bytes c other apart =
    record {
      left = refl;
      taken = refl;
      written = with_entry-other c.written handle _ other apart;
      readable = refl;
      writable = refl;
    }

-- what was given before the last
get_push-other : (xs : List (List ℕ × Bool)) (x : List ℕ × Bool) (i : ℕ) → i ≢ length xs →
    slice_get (xs ++ x ∷ []) i ≡ slice_get xs i
get_push-other [] x zero apart = absurd (apart refl)
get_push-other [] x (suc i) apart = refl
get_push-other (y ∷ ys) x zero apart = refl
get_push-other (y ∷ ys) x (suc i) apart = get_push-other ys x i (λ e. apart (ap suc e))

get_last : (xs : List (List ℕ × Bool)) (x : List ℕ × Bool) → slice_get (xs ++ x ∷ []) (length xs) ≡ Some x
get_last [] x = refl
get_last (y ∷ ys) x = get_last ys x

-- a test of what was given at a handle, where another one is given
test-other : (test : Option (List ℕ × Bool) → Bool) (xs : List (List ℕ × Bool)) (x : List ℕ × Bool) (h : ℕ) →
    h ≢ 3 + length xs →
    (nat_le 3 h && test (slice_get (xs ++ x ∷ []) (h - 3))) ≡ (nat_le 3 h && test (slice_get xs (h - 3)))
test-other test xs x h apart = by_test (nat_le 3 h) refl
  where
    by_test : (b : Bool) → nat_le 3 h ≡ b →
        (b && test (slice_get (xs ++ x ∷ []) (h - 3))) ≡ (b && test (slice_get xs (h - 3)))
    by_test true up =
        let three : 3 ≤ h = grind (arith, nat_tests) in
        ap test (get_push-other xs x (h - 3) (λ e. apart (omega arith)))
    by_test false up = refl

readable-other : (c : Contents) (x : List ℕ × Bool) (h : ℕ) → h ≢ next_handle c →
    is_readable (record c { given = c.given ++ x ∷ [] }) h ≡ is_readable c h
readable-other c x h apart = ap (λ (b : Bool). h == 0 || b) (test-other reads_given c.given x h apart)

writable-other : (c : Contents) (x : List ℕ × Bool) (h : ℕ) → h ≢ next_handle c →
    is_writable (record c { given = c.given ++ x ∷ [] }) h ≡ is_writable c h
writable-other c x h apart = ap (λ (b : Bool). h == 1 || h == 2 || b) (test-other writes_given c.given x h apart)

pub same-open : (name content : List ℕ) (c : Contents) (other : ℕ) → other ≢ next_handle c →
    SameAt c (after_open name content c) other
same-open name content c other apart =
    record {
      left = with_entry-other c.left (next_handle c) _ other apart;
      taken = with_entry-other c.taken (next_handle c) _ other apart;
      written = refl;
      readable = readable-other c (name, false) other apart;
      writable = writable-other c (name, false) other apart;
    }

pub same-create : (name : List ℕ) (c : Contents) (other : ℕ) → other ≢ next_handle c →
    SameAt c (after_create name c) other
same-create name c other apart =
    record {
      left = refl;
      taken = refl;
      written = with_entry-other c.written (next_handle c) _ other apart;
      readable = readable-other c (name, true) other apart;
      writable = writable-other c (name, true) other apart;
    }

-- a list of tests where the last two hold
last_holds : (a b c d : Bool) → c ≡ true → d ≡ true → (a || b || c && d) ≡ true
last_holds true b c d p q = refl
last_holds false true c d p q = refl
last_holds false false c d p q = ap (λ (x : Bool). x && d) p ∙ q

-- the entry that was given last
given_last : (xs : List (List ℕ × Bool)) (x : List ℕ × Bool) → slice_get (xs ++ x ∷ []) (3 + length xs - 3) ≡ Some x
given_last xs x = let at : 3 + length xs - 3 ≡ length xs = omega arith in rw at (get_last xs x)

-- the handle of an opened file is one to read
pub readable-opened : (name content : List ℕ) (c : Contents) →
    is_readable (after_open name content c) (next_handle c) ≡ true
readable-opened name content c =
    last_holds false (next_handle c == 0) (nat_le 3 (next_handle c))
    (reads_given (slice_get (c.given ++ (name, false) ∷ []) (next_handle c - 3)))
    (grind (arith, nat_tests)) (ap reads_given (given_last c.given (name, false)))

-- that of a created one is one to write
pub writable-created : (name : List ℕ) (c : Contents) → is_writable (after_create name c) (next_handle c) ≡ true
writable-created name c =
    last_holds (next_handle c == 1) (next_handle c == 2) (nat_le 3 (next_handle c))
    (writes_given (slice_get (c.given ++ (name, true) ∷ []) (next_handle c - 3)))
    (grind (arith, nat_tests)) (ap writes_given (given_last c.given (name, true)))
