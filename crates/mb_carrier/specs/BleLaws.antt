-- Of BLE-MIDI packets: what is known of them stays known, their marks suit, and what was written stays written.
use Rattle.std.proofs.Common.{◌≡◌, ℕ, true, List, [], ◌∷◌, ◌++◌, map, refl, sym, ◌∙◌, ap, append_assoc}
use Rattle.std.proofs.lemmas.List.Concat.{flat_map-append}
use Rattle.mb_message.specs.Front.{IsFront}
use Rattle.mb_stream.specs.Groups.{last_of}
use Rattle.mb_stream.specs.Told.{at_end}
use Rattle.mb_stream.specs.Puts.{Put}
use Rattle.mb_stream.specs.Standing.{suited}
use Rattle.mb_stream.specs.Reading.{Part, sign_in, signs_of, told_signs}
use Rattle.mb_ble.specs.Packets.{clock, payload}
use Rattle.mb_ble.specs.Reading.{last_tokens, ble_known, ble_so_far, ble_reading}
use Rattle.mb_ble.specs.Written.{Spelled, ble_live, ble_written}
use Rattle.mb_ble.specs.Running.{flushed, given_at, under_way_at, live_from, under_way_from, under_way}
use Rattle.mb_ble.proofs.Live.{live_law, written_law}
use Rattle.mb_ble.proofs.BleMarks as carrier
use Rattle.mb_ble.proofs.WrittenLaws as written
use Rattle.mb_carrier.specs.Carrier.{known_signs}
use Rattle.mb_carrier.specs.DinLaws.{end_signs}

live_from-append : (size : ℕ) (before : List Spelled) (xs ys : List Put) →
    live_from size before (xs ++ ys) ≡ live_from size before xs ++ live_from size (under_way_from size before xs) ys
live_from-append size before [] ys = refl
live_from-append size before (x ∷ xs) ys =
    let behind : List Spelled = under_way_at size before x in
    ap (λ bs. given_at size before x ++ bs) (live_from-append size behind xs ys)
    ∙ sym (append_assoc (given_at size before x) (live_from size behind xs)
    (live_from size (under_way_from size behind xs) ys))

pub live-stays : (size : ℕ) (puts more : List Put) → IsFront (ble_live size puts) (ble_live size (puts ++ more))
live-stays size puts more =
    let new = live_from size (under_way_from size [] puts) more in (
      new,
      live_law size (puts ++ more) ∙ (live_from-append size [] puts more
          ∙ ap (λ bs. bs ++ new) (sym (live_law size puts))),
    )

pub live-closes : (size : ℕ) (puts : List Put) → IsFront (ble_live size puts) (ble_written size puts)
live-closes size puts = (flushed (under_way size puts), written_law size puts)

-- what is known of some bytes stays known
pub known-stays : (bytes more : List ℕ) → IsFront (ble_known bytes) (ble_known (bytes ++ more))
known-stays bytes more = let f = written.known-stays bytes more in (f.0, f.1)

-- the marks of the reading are those that are known and those of its end
pub marks-end : (bytes : List ℕ) →
    signs_of (ble_reading bytes) ≡ known_signs (ble_known bytes) ++ told_signs (at_end (last_of
    (payload (last_tokens bytes))))
marks-end bytes =
    flat_map-append (λ (p : Part). sign_in p.told) (ble_so_far bytes) _
    ∙ ap (λ ms. known_signs (ble_known bytes) ++ ms)
    (end_signs (clock (last_tokens bytes)).moment (at_end (last_of (payload (last_tokens bytes)))))

pub marks-suit : (bytes : List ℕ) → suited (signs_of (ble_reading bytes)) ≡ true
marks-suit bytes = carrier.suits bytes
