-- What a caller's loop keeps, from the clauses of `put` alone.
use Rattle.std.proofs.Common.{◌≡◌, ℕ, Bool, true, List, [], ◌++◌, map, refl, sym, ap, subst, ◌∙◌, append_assoc}
use Rattle.std.proofs.Common.{append-nil}
use Rattle.std.specs.List.{list_all}
use Rattle.std.proofs.lemmas.List.{map-append}
use Rattle.std.proofs.lemmas.List.Folds.{list_all-append, list_all-map}
use Rattle.mb_message.specs.Bytes.{is_data}
use Rattle.mb_message.specs.Signs.{Sign, ByteSign, suits_sign}
use Rattle.mb_stream.specs.Appended.{Appended}
use Rattle.mb_stream.proofs.StandingLemmas.{both}
use Rattle.mb_stream.proofs.AppendedLemmas.{Appended-nothing, Appended-then}
use Rattle.mb_usb.specs.Writer.{Writer, Stands}
use Rattle.mb_usb.specs.Written.{usb_live}

-- the writer was given these bytes since it was old, and has was had
pub record Sofar (old new : Writer) (had has taken : List ℕ) : Type 0 where
  pub cable : new.cable ≡ old.cable
  pub stands : (marks : List Sign) → Stands old marks → Stands new (marks ++ map ByteSign taken)
  pub written : (marks : List Sign) → Stands old marks →
      Appended had has (usb_live old.cable marks) (usb_live old.cable (marks ++ map ByteSign taken))

pub Sofar-nothing : (w : Writer) (had : List ℕ) → Sofar w w had had []
Sofar-nothing w had = record {
  cable = refl;
  stands = λ marks s. subst (Stands w) (sym (append-nil marks)) s;
  written = λ marks s.
      subst (λ (ms : List Sign). Appended had had (usb_live w.cable marks) (usb_live w.cable ms))
      (sym (append-nil marks))
      (Appended-nothing had (usb_live w.cable marks));
}

taken-more : (marks : List Sign) (taken piece : List ℕ) →
    (marks ++ map ByteSign taken) ++ map ByteSign piece ≡ marks ++ map ByteSign (taken ++ piece)
taken-more marks taken piece =
    append_assoc marks (map ByteSign taken) (map ByteSign piece) ∙
    ap (λ (ms : List Sign). marks ++ ms) (sym (map-append ByteSign taken piece))

pub Sofar-more : (old mid new : Writer) (had has now taken piece : List ℕ) → Sofar old mid had has taken →
    new.cable ≡ mid.cable →
    ((marks : List Sign) → Stands mid marks → Stands new (marks ++ map ByteSign piece)) →
    ((marks : List Sign) → Stands mid marks → Appended has now (usb_live mid.cable marks) (usb_live mid.cable (marks ++
    map ByteSign piece))) →
    Sofar old new had now (taken ++ piece)
Sofar-more old mid new had has now taken piece so_far cable stands written = record {
  cable = cable ∙ so_far.cable;
  stands = λ marks s. subst (Stands new) (taken-more marks taken piece) (stands (marks ++ map ByteSign taken)
      (so_far.stands marks s));
  written = λ marks s.
      let ms = marks ++ map ByteSign taken in
      let call = subst (λ (c : ℕ). Appended has now (usb_live c ms) (usb_live c (ms ++ map ByteSign piece)))
      so_far.cable
      (written ms (so_far.stands marks s)) in
      Appended-then had has now (usb_live old.cable marks) (usb_live old.cable ms) (usb_live old.cable (marks ++
      map ByteSign (taken ++ piece)))
      (so_far.written marks s)
      (subst (λ (longer : List Sign). Appended has now (usb_live old.cable ms) (usb_live old.cable longer))
      (taken-more marks taken piece) call);
}

-- data suits where a SysEx is open
pub run_suits : (o : Bool) (bytes : List ℕ) → o ≡ true → list_all is_data bytes ≡ true →
    list_all (suits_sign o) (map ByteSign bytes) ≡ true
run_suits o bytes opened data_bytes =
    subst (λ (open_now : Bool). list_all (suits_sign open_now) (map ByteSign bytes) ≡ true) (sym opened)
    (list_all-map (suits_sign true) ByteSign bytes ∙ data_bytes)

-- a list that is cut in two has what it had
pub parts_pass : (bytes front back : List ℕ) → front ++ back ≡ bytes → list_all is_data bytes ≡ true →
    (list_all is_data front ≡ true) × (list_all is_data back ≡ true)
parts_pass bytes front back whole passes =
    both (list_all is_data front) (list_all is_data back)
    (sym (list_all-append is_data front back) ∙ ap (list_all is_data) whole ∙ passes)
