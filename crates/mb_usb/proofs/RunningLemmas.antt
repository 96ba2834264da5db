-- The running form over two lists, one behind the other.
use Rattle.std.proofs.Common.{◌≡◌, ℕ, List, [], ◌∷◌, ◌++◌, refl, sym, ap, ◌∙◌, append_assoc, append-nil}
use Rattle.mb_message.specs.Signs.{Sign}
use Rattle.mb_usb.specs.Running.{usb_at, usb_from, pending_after, pending_from}

pub pending_from-append : (p : List ℕ) (ms ns : List Sign) → pending_from p (ms ++ ns) ≡ pending_from
    (pending_from p ms) ns
pending_from-append p [] ns = refl
pending_from-append p (m ∷ ms) ns = pending_from-append (pending_after p m) ms ns

pub usb_from-append : (c : ℕ) (p : List ℕ) (ms ns : List Sign) →
    usb_from c p (ms ++ ns) ≡ usb_from c p ms ++ usb_from c (pending_from p ms) ns
usb_from-append c p [] ns = refl
usb_from-append c p (m ∷ ms) ns =
    ap (λ (xs : List ℕ). usb_at c p m ++ xs) (usb_from-append c (pending_after p m) ms ns) ∙
    sym (append_assoc (usb_at c p m) (usb_from c (pending_after p m) ms)
    (usb_from c (pending_from (pending_after p m) ms) ns))

-- of one mark
pub usb_from-one : (c : ℕ) (p : List ℕ) (m : Sign) → usb_from c p (m ∷ []) ≡ usb_at c p m
usb_from-one c p m = append-nil (usb_at c p m)
