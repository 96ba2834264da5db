-- What a cable carries of written marks has no note.
use Rattle.std.proofs.Common.{◌≡◌, ℕ, Bool, true, false, ◌==◌, if◌then◌else◌, List, [], ◌∷◌, ◌++◌, length, Option, Some}
use Rattle.std.proofs.Common.{None, refl, sym, ap, ap₂, ◌∙◌, subst}
use Rattle.mb_message.specs.Signs.{Sign, ShortSign, RtSign, OpenSign, ByteSign, EndSign, AbortSign}
use Rattle.mb_stream.proofs.ByteKinds.{DataKind, RtKind, EndKind, kind}
use Rattle.mb_stream.proofs.Machine.{Reader, Rest, Inside, after, noted, is_begun, behind, Quiet, Clean, behind-append}
use Rattle.mb_stream.proofs.Machine.{Clean-append}
use Rattle.mb_stream.proofs.Late.{Place, Closed, Opened, Broke, is_opened}
use Rattle.mb_stream.proofs.Suits.{Suit}
use Rattle.mb_stream.proofs.SpelledStep.{bytes_at, Meets, Meets-quiet, Step, step}
use Rattle.mb_usb.proofs.HeldBytes.{held_back}

-- the reader before bytes that wait: none of them has a note, and behind them it is inside
record Silent (r : Reader) (p : List ℕ) : Type 0 where
  quiet : Quiet r p
  inside : behind r p ≡ Inside

abbrev Holds : Place → Reader → List ℕ → Type 0
Holds Closed r [] = Meets None r Closed
Holds Broke r [] = Meets None r Broke
Holds Closed r (x ∷ p) = ⊥
Holds Broke r (x ∷ p) = ⊥
Holds Opened r p = Silent r p

-- a status that runs doesn't matter to a writer that leaves none out
Meets-any : (w : Option ℕ) (r : Reader) (p : Place) → Meets w r p → Meets None r p
Meets-any None r p h = h
Meets-any (Some s) r Closed h = subst (λ x. Meets None x Closed) (sym h.2) tt
Meets-any (Some s) r Opened h = absurd h
Meets-any (Some s) r Broke h = absurd h

Quiet-append : (r : Reader) (bs cs : List ℕ) → Quiet r bs → Quiet (behind r bs) cs → Quiet r (bs ++ cs)
Quiet-append r [] cs h k = k
Quiet-append r (b ∷ bs) cs h k = (h.0, Quiet-append (after r (kind b) b) bs cs h.1 k)

Clean-quiet : (r : Reader) (bs : List ℕ) → Quiet r bs → is_begun (behind r bs) ≡ false → Clean r bs
Clean-quiet r [] h e = e
Clean-quiet r (b ∷ bs) h e = (h.0, Clean-quiet (after r (kind b) b) bs h.1 e)

inside_quiet : (r : Reader) (b : ℕ) → r ≡ Inside → kind b ≡ DataKind → Quiet r (b ∷ [])
inside_quiet r b h e = (ap₂ (λ x k. noted x k) h e, tt)

Silent-push : (r : Reader) (p : List ℕ) (b : ℕ) → Silent r p → kind b ≡ DataKind → Silent r (p ++ b ∷ [])
Silent-push r p b h e = record {
  quiet = Quiet-append r p (b ∷ []) h.quiet (inside_quiet (behind r p) b h.inside e);
  inside = behind-append r p (b ∷ []) ∙ ap₂ (λ x k. after x k b) h.inside e;
}

-- one mark's bytes by themselves, none waiting
clean_step : (r : Reader) (p : Place) (m : Sign) (s : Step false None r p m) (rest : List ℕ) → Clean s.next rest →
    Clean r (bytes_at false None m ++ rest)
clean_step r p m s rest h =
    Clean-append r (bytes_at false None m) rest s.tells.quiet (subst (λ x. Clean x rest) (sym s.tells.next_is) h)

-- a SysEx starts: its start waits
start : (r : Reader) (p : Place) → Meets None r p → Silent r (0xf0 ∷ [])
start r p h = record { quiet = ((Meets-quiet None r p h).1, tt); inside = refl }

rt_clean : (r : Reader) (b : ℕ) (rest : List ℕ) → kind b ≡ RtKind → Clean r rest → Clean r (b ∷ rest)
rt_clean r b rest e c = (ap (λ k. noted r k) e, subst (λ k. Clean (after r k b) rest) (sym e) c)

clean-held : (ms : List Sign) (at : Place) (r : Reader) (p : List ℕ) → Holds at r p → Suit (is_opened at) ms →
    Clean r (held_back p ms)
clean-held [] Closed r [] h su = (Meets-quiet None r Closed h).1
clean-held [] Broke r [] h su = (Meets-quiet None r Broke h).1
clean-held [] Opened r p h su = Clean-quiet r p h.quiet (ap is_begun h.inside)
clean-held (ShortSign s a b ∷ ms) Closed r [] h su =
    let x : Step false None r Closed (ShortSign s a b) = step false None r Closed (ShortSign s a b) h su.0 in
    clean_step r Closed (ShortSign s a b) x (held_back [] ms) (clean-held ms Closed x.next [] (Meets-any _ x.next Closed
    x.meets) su.1)
clean-held (ShortSign s a b ∷ ms) Broke r [] h su =
    let x : Step false None r Broke (ShortSign s a b) = step false None r Broke (ShortSign s a b) h su.0 in
    clean_step r Broke (ShortSign s a b) x (held_back [] ms) (clean-held ms Closed x.next [] (Meets-any _ x.next Closed
    x.meets) su.1)
clean-held (ShortSign s a b ∷ ms) Opened r p h su = absurd su.0
clean-held (RtSign b ∷ ms) Closed r [] h su = rt_clean r b (held_back [] ms) su.0 (clean-held ms Closed r [] h su.1)
clean-held (RtSign b ∷ ms) Broke r [] h su = rt_clean r b (held_back [] ms) su.0 (clean-held ms Broke r [] h su.1)
clean-held (RtSign b ∷ ms) Opened r p h su = rt_clean r b (held_back p ms) su.0 (clean-held ms Opened r p h su.1)
clean-held (OpenSign ∷ ms) Closed r [] h su = clean-held ms Opened r (0xf0 ∷ []) (start r Closed h) su.1
clean-held (OpenSign ∷ ms) Broke r [] h su = clean-held ms Opened r (0xf0 ∷ []) (start r Broke h) su.1
clean-held (OpenSign ∷ ms) Opened r p h su = absurd su.0
clean-held (ByteSign b ∷ ms) Opened r p h su =
    let Goal : Bool → Type 0 = λ c. Clean r (if c then p ++ b ∷ held_back [] ms else held_back (p ++ b ∷ []) ms) in
    let quiet : Quiet (behind r p) (b ∷ []) = inside_quiet (behind r p) b h.inside su.0 in
    let later : Clean (behind (behind r p) (b ∷ [])) (held_back [] ms) =
    clean-held ms Opened (behind (behind r p) (b ∷ [])) [] (record {
      quiet = tt;
      inside =
          ap₂ (λ x k. after x k b) h.inside su.0;
    }) su.1 in
    let kept : Clean r (held_back (p ++ b ∷ []) ms) = clean-held ms Opened r (p ++ b ∷ []) (Silent-push r p b h su.0)
    su.1 in
    elim (length p == 2) as Goal [
      | true ↦ Clean-append r p (b ∷ held_back [] ms) h.quiet (Clean-append (behind r p) (b ∷ []) (held_back [] ms)
          quiet later)
      | false ↦ kept
    ]
clean-held (EndSign ∷ ms) Opened r p h su =
    let ended : Quiet (behind r p) (0xf7 ∷ []) = (ap (λ x. noted x EndKind) h.inside, tt) in
    Clean-append r p (0xf7 ∷ held_back [] ms) h.quiet
    (Clean-append (behind r p) (0xf7 ∷ []) (held_back [] ms) ended (clean-held ms Closed Rest [] tt su.1))
clean-held (AbortSign ∷ ms) Opened r p h su =
    Clean-append r p (held_back [] ms) h.quiet (clean-held ms Broke (behind r p) [] h.inside su.1)
clean-held (ByteSign b ∷ ms) Closed r p h su = absurd su.0
clean-held (ByteSign b ∷ ms) Broke r p h su = absurd su.0
clean-held (EndSign ∷ ms) Closed r p h su = absurd su.0
clean-held (EndSign ∷ ms) Broke r p h su = absurd su.0
clean-held (AbortSign ∷ ms) Closed r p h su = absurd su.0
clean-held (AbortSign ∷ ms) Broke r p h su = absurd su.0
clean-held [] Closed r (x ∷ p) h su = absurd h
clean-held [] Broke r (x ∷ p) h su = absurd h
clean-held (ShortSign s a b ∷ ms) Closed r (x ∷ p) h su = absurd h
clean-held (ShortSign s a b ∷ ms) Broke r (x ∷ p) h su = absurd h
clean-held (RtSign b ∷ ms) Closed r (x ∷ p) h su = absurd h
clean-held (RtSign b ∷ ms) Broke r (x ∷ p) h su = absurd h
clean-held (OpenSign ∷ ms) Closed r (x ∷ p) h su = absurd h
clean-held (OpenSign ∷ ms) Broke r (x ∷ p) h su = absurd h

pub Clean-held : (ms : List Sign) → Suit false ms → Clean Rest (held_back [] ms)
Clean-held ms su = clean-held ms Closed Rest [] tt su
