-- A text is read from a file, piece by piece.
use Rattle.std.proofs.Common.{◌≡◌, ◌⊎◌, ℕ, ◌+◌, ◌<◌, ◌≤◌, true, List, [], ◌++◌, length, take}
use Rattle.std.proofs.Common.{drop, refl, sym, ◌∙◌, ap, subst, inl, inr, append_assoc, length-append}
use Rattle.std.specs.Prelude.{Result, Ok, Err, IsOk, OnErr, OnOk, ◌↔◌}
use Rattle.std.proofs.lemmas.List.{drop_at, length-take-le, take-append-drop, take_at}
use Rattle.mb_outside.specs.Contents.{Contents, Gives, after_open, after_read, is_readable, next_handle}
use Rattle.mb_outside.specs.ContentsLaws.{after_read-none, after_read-twice, with_entry-here}
use Rattle.mb_outside.proofs.HandleLemmas.{readable-opened}
use Rattle.mb_top.specs.TextFile.{FileRead, Opened, TextRead, text_taken}

pub text-none : (handle : ℕ) (c : Contents) (text : List ℕ) → text ≡ [] → TextRead handle c c text
text-none handle c text e =
    subst (TextRead handle c c) (sym e)
    (record { front = (c.left handle, refl); contents = sym (after_read-none handle c) })

left-behind : (handle : ℕ) (before now : Contents) (text : List ℕ) → (t : TextRead handle before now text) →
    now.left handle ≡ (t.front).0
left-behind handle before now text t =
    ap (λ (c : Contents). c.left handle) t.contents
    ∙ (with_entry-here before.left handle (drop (length text) (before.left handle))
    ∙ (ap (drop (length text)) (t.front).1 ∙ drop_at text (t.front).0 (length text) refl))

text-more : (handle : ℕ) (before old now : Contents) (text buffer piece : List ℕ) (count : ℕ) →
    TextRead handle before old text → Gives old now handle count buffer → piece ≡ take count buffer →
    TextRead handle before now (text ++ piece)
text-more handle before old now text buffer piece count t g cut =
    let rest = (t.front).0 in
    let left = left-behind handle before old text t in
    let piece_is : piece ≡ take count rest = cut ∙ (g.bytes ∙ ap (take count) left) in
    let within : count ≤ length rest = subst (λ (xs : List ℕ). count ≤ length xs) left g.within in
    let size : length piece ≡ count = ap length piece_is ∙ length-take-le count rest within in
    record {
      front = (
        drop count rest,
        (t.front).1 ∙ (ap (λ xs. text ++ xs) (sym (take-append-drop count rest) ∙ ap (λ xs. xs ++ drop count rest)
            (sym piece_is)) ∙ sym (append_assoc text piece (drop count rest))),
      );
      contents =
          g.contents
          ∙ (ap (after_read handle count) t.contents
          ∙ (after_read-twice handle count (length text) before
          ∙ ap (λ (n : ℕ). after_read handle n before)
          (sym (length-append text piece ∙ ap (λ n. length text + n) size))));
    }

-- there was room for the piece
extended : {T E : Type 0} (r : Result T E) (old new piece : List ℕ) (len room : ℕ) →
    (IsOk r ↔ (len + length piece ≤ room)) → OnOk r (new ≡ old ++ piece) → len + length piece ≤ room →
    new ≡ old ++ piece
extended (Ok x) old new piece len room fits ok within = ok
extended (Err e) old new piece len room fits ok within = (let fitted = fits.1 within in cc)

pub text-next : {T E : Type 0} (r : Result T E) (handle : ℕ) (before old now : Contents)
    (text new buffer piece : List ℕ) (len count room : ℕ) →
    (IsOk r ↔ (len + length piece ≤ room)) → OnOk r (new ≡ text ++ piece) → len + length piece ≤ room →
    TextRead handle before old text → Gives old now handle count buffer → piece ≡ take count buffer →
    TextRead handle before now new
text-next r handle before old now text new buffer piece len count room fits ok within t g cut =
    subst (TextRead handle before now) (sym (extended r text new piece len room fits ok within))
    (text-more handle before old now text buffer piece count t g cut)

same-read : (handle count : ℕ) (old now : Contents) (buffer : List ℕ) → Gives old now handle count buffer →
    count ≡ 0 → now ≡ old
same-read handle count old now buffer g none =
    (g.contents ∙ ap (λ (n : ℕ). after_read handle n old) none) ∙ after_read-none handle old

pub text-end : (handle : ℕ) (before old now : Contents) (text buffer : List ℕ) (count : ℕ) →
    TextRead handle before old text → Gives old now handle count buffer → count ≡ 0 → TextRead handle before now text
text-end handle before old now text buffer count t g none =
    record { front = t.front; contents = same-read handle count old now buffer g none ∙ t.contents }

pub text-same : (handle : ℕ) (before old now : Contents) (text : List ℕ) → now ≡ old →
    TextRead handle before old text → TextRead handle before now text
text-same handle before old now text e t = record { front = t.front; contents = e ∙ t.contents }

pub none-left : (handle : ℕ) (old now : Contents) (buffer : List ℕ) (count : ℕ) →
    Gives old now handle count buffer → count ≡ 0 → 0 < length buffer → now.left handle ≡ []
none-left handle old now buffer count g none room =
    ap (λ (c : Contents). c.left handle) (same-read handle count old now buffer g none) ∙ g.ends none room

pub readable-later : (handle : ℕ) (before now : Contents) (text : List ℕ) → TextRead handle before now text →
    is_readable before handle ≡ true → is_readable now handle ≡ true
readable-later handle before now text t e = ap (λ (c : Contents). is_readable c handle) t.contents ∙ e

-- the file that was opened

pub readable-first : (file content : List ℕ) (before mid : Contents) (handle : ℕ) → handle ≡ next_handle before →
    mid ≡ after_open file content before → is_readable mid handle ≡ true
readable-first file content before mid handle same opened =
    ap (is_readable mid) same
    ∙ (ap (λ (c : Contents). is_readable c (next_handle before)) opened ∙ readable-opened file content before)

pub text-opened : (file content text : List ℕ) (before mid now : Contents) (handle : ℕ) →
    handle ≡ next_handle before → mid ≡ after_open file content before → TextRead handle mid now text →
    Opened before now file
text-opened file content text before mid now handle same opened t =
    record {
      content = content;
      count = length text;
      contents =
          t.contents ∙ (ap (after_read handle (length text)) opened
          ∙ ap (λ (h : ℕ). after_read h (length text) (after_open file content before)) same);
    }

text-is : (file content text : List ℕ) (before mid now : Contents) (handle : ℕ) → handle ≡ next_handle before →
    mid ≡ after_open file content before → TextRead handle mid now text → text_taken before now ≡ text
text-is file content text before mid now handle same opened t =
    ap now.taken (sym same)
    ∙ (ap (λ (c : Contents). c.taken handle) t.contents
    ∙ (with_entry-here mid.taken handle (mid.taken handle ++ take (length text) (mid.left handle))
    ∙ (ap (λ xs. xs ++ take (length text) (mid.left handle)) none
    ∙ (ap (take (length text)) (t.front).1 ∙ take_at text (t.front).0 (length text) refl))))
  where
    none : mid.taken handle ≡ []
    none = ap mid.taken same ∙ (ap (λ (c : Contents). c.taken (next_handle before)) opened
        ∙ with_entry-here before.taken (next_handle before) [])

-- all of it, or as much as fits

pub file-read : {T E : Type 0} (r : Result T E) (tells : Type 0) (file text : List ℕ) (most : ℕ)
    (before mid now : Contents) (handle : ℕ) → (tells → (handle ≡ next_handle before) × (content : List ℕ)
    × (mid ≡ after_open file content before)) → (tells → TextRead handle mid now text) →
    OnOk r (tells → (now.left handle ≡ []) ⊎ (length text ≡ most)) → OnOk r (tells → FileRead file most before now text)
file-read (Err e) tells file text most before mid now handle opens read all = tt
file-read (Ok x) tells file text most before mid now handle opens read all = λ t.
    let o = opens t in
    record {
      opened = text-opened file (o.1) text before mid now handle o.0 o.2 (read t);
      text_is = text-is file (o.1) text before mid now handle o.0 o.2 (read t);
      all = elim (all t) [ inl e ↦ inl (ap now.left (sym o.0) ∙ e) | inr n ↦ inr n ];
    }

pub file-unread : {T E : Type 0} (r : Result T E) (tells : Type 0) (file text : List ℕ) (before mid now : Contents)
    (handle : ℕ) → (tells → (handle ≡ next_handle before) × (content : List ℕ)
    × (mid ≡ after_open file content before)) → (tells → TextRead handle mid now text) →
    OnErr r (tells → (now ≡ before) ⊎ Opened before now file)
file-unread (Ok x) tells file text before mid now handle opens read = tt
file-unread (Err e) tells file text before mid now handle opens read = λ t.
    let o = opens t in inr (text-opened file (o.1) text before mid now handle o.0 o.2 (read t))
