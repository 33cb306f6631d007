-- A longer recording: earlier judgements stay, and what is known after one more message.
use Rattle.std.proofs.Common.{◌≡◌, ℕ, zero, suc, ◌+◌, ◌-◌, ◌*◌, ◌%◌, ◌/◌, ◌≤◌, Bool, true, false, None, Some, List, []}
use Rattle.std.proofs.Common.{◌∷◌, ◌++◌, slice_get, length, take, drop, refl, sym, ap, ◌∙◌, arith, append-nil}
use Rattle.std.proofs.Common.{append_assoc, length-append}
use Rattle.std.proofs.Math.Seq.{take-append_seam}
use Rattle.std.proofs.lemmas.List.{length-drop, get_or_append_left, drop-append-le, take-append-le}
use Rattle.std.specs.Prelude.{Option, max, nat_eq}
use Rattle.std.specs.declared.result.Result.TheVariants.{Ok}
use Rattle.std.proofs.lemmas.Bool.Decides.{nat_tests}
use Rattle.std.specs.List.{AllByRecursion}
use Rattle.wl_check.proofs.KnownAtPlace.{advertised_keeps}
use Rattle.wl_wire.specs.declared.kind.Iface.{Iface}
use Rattle.wl_wire.specs.Word.{header_at, number_at}
use Rattle.wl_sigs.specs.Tables.{Interface}
use Rattle.wl_message.specs.Cut.{is_size}
use Rattle.wl_recording.specs.declared.piece.Direction.{Direction}
use Rattle.wl_recording.specs.Piece.{Piece}
use Rattle.wl_check.specs.declared.changes.MessageChanges.{MessageChanges}
use Rattle.wl_check.specs.declared.frames.FramedMessage.{FramedMessage}
use Rattle.wl_check.specs.Merged.{stream_of, piece_tokens, completed, completed_at, merged, merged_within}
use Rattle.wl_check.specs.Changes.{Call, changes}
use Rattle.wl_check.specs.Places.{KnownAtPlace, known, object_named, object_after, used, used_after, server_used}
use Rattle.wl_check.specs.Places.{server_used_after, advertised_version, advertised_after, advertised_by, taken}
use Rattle.wl_check.specs.Places.{taken_after, IsKnownBehind}
use Rattle.wl_check.specs.Rules.{judged, judged_message}
use Rattle.wl_check.specs.Session.{Judged, changes_of, changes_at, judged_after, messages, session_of, IsWithin}
use Rattle.wl_check.proofs.KnownBehindMessage.{named_next}
use Rattle.wl_check.proofs.JudgedByPlaces.{front_known, get_front}
use Rattle.wl_check.proofs.MergedPiece.{own, own_tokens}
use Rattle.wl_check.proofs.WithinStream.{LiesIn, merged_lies}

-- ---- a message is judged in the same way whatever follows it in its stream

number_more : (xs ys : List ℕ) → 4 ≤ length xs → number_at (xs ++ ys) ≡ number_at xs
number_more xs ys h =
    let a = get_or_append_left xs ys 0 0 (omega arith) in
    let b = get_or_append_left xs ys 0 1 (omega arith) in
    let c = get_or_append_left xs ys 0 2 (omega arith) in
    let d = get_or_append_left xs ys 0 3 (omega arith) in
    λ i. a i % 256 + b i % 256 * 256 + c i % 256 * 65536 + d i % 256 * 16777216

header_more : (xs ys : List ℕ) → 8 ≤ length xs → header_at (xs ++ ys) ≡ header_at xs
header_more xs ys h =
    let rest : drop 4 (xs ++ ys) ≡ drop 4 xs ++ ys = drop-append-le 4 xs ys (omega arith) in
    let long : 4 ≤ length (drop 4 xs) = omega (arith, length-drop 4 xs) in
    let word = number_more xs ys (omega arith) in
    let second = ap number_at rest ∙ number_more (drop 4 xs) ys long in
    λ i. record { object = word i; size = second i / 65536; opcode = second i % 65536 }

body_more : (p n : ℕ) (xs ys : List ℕ) → p + n ≤ length xs → take n (drop p (xs ++ ys)) ≡ take n (drop p xs)
body_more p n xs ys h =
    ap (take n) (drop-append-le p xs ys (omega arith))
    ∙ take-append-le n (drop p xs) ys (omega (arith, length-drop p xs))

pub size_least : (limit n : ℕ) → is_size limit n ≡ true → 8 ≤ n
size_least limit n e = grind (arith, nat_tests)

judged_if : (limit : ℕ) (tables : List Interface) (k : KnownAtPlace) (xs ys : List ℕ) (f : FramedMessage) (b : Bool)
    → is_size limit f.size ≡ b → IsWithin limit (length xs) f
    → judged limit tables k (xs ++ ys) f ≡ judged limit tables k xs f
judged_if limit tables k xs ys f false e w = rw e refl
judged_if limit tables k xs ys f true e w =
    let whole = w.whole e in
    let l : 8 ≤ f.size = size_least limit f.size e in
    let long : 8 ≤ length (drop f.start xs) = (let n = length-drop f.start xs in let g = w.header
    in omega (arith, n, g)) in
    let head : header_at (drop f.start (xs ++ ys)) ≡ header_at (drop f.start xs) =
    ap header_at (drop-append-le f.start xs ys (let g = w.header in omega (arith, g)))
    ∙ header_more (drop f.start xs) ys long in
    let body = body_more (f.start + 8) (f.size - 8) xs ys (omega (arith, whole, l)) in
    rw e (λ i. judged_message tables k f (head i) (body i))

-- ---- the judgements of more frames

abbrev judged_along : (limit : ℕ) → List Interface → (Direction → List ℕ) → (Direction → List ℕ) → List FramedMessage
    → Type 0
judged_along limit tables old new fs = AllByRecursion
    (λ (f : FramedMessage). (k : KnownAtPlace) → judged limit tables k (new f.direction) f
    ≡ judged limit tables k (old f.direction) f) fs

pub after_more : (limit : ℕ) (tables : List Interface) (old new : Direction → List ℕ) (e : List Judged)
    (fs gs : List FramedMessage) → judged_along limit tables old new fs
    → judged_after limit tables new e (fs ++ gs) ≡ judged_after limit tables new (judged_after limit tables old e fs) gs
unfolding judged_after
after_more limit tables old new e [] gs a = refl
after_more limit tables old new e (f ∷ fs) gs a =
    let k = known (changes_at tables e) (suc (length e)) in
    ap (λ (j : Judged). judged_after limit tables new (e ++ j ∷ []) (fs ++ gs)) (a.0 k)
    ∙ after_more limit tables old new (e ++ judged limit tables k (old f.direction) f ∷ []) fs gs a.1

-- ---- one more piece

get_seam : {A : Type 0} (xs : List A) (y : A) → slice_get (xs ++ y ∷ []) (length xs) ≡ Some y
get_seam [] y = refl
get_seam (x ∷ xs) y = get_seam xs y

completed_front : (limit : ℕ) (ps qs : List Piece) (k : ℕ) (o : Option Piece) → take k qs ≡ take k ps
    → completed_at limit qs k o ≡ completed_at limit ps k o
completed_front limit ps qs k None e = refl
completed_front limit ps qs k (Some p) e = ap (λ (l : List Piece). completed limit l p) e

merged_front : (limit : ℕ) (ps more : List Piece) (k : ℕ) → k ≤ length ps
    → merged_within limit (ps ++ more) k ≡ merged_within limit ps k
unfolding merged_within
merged_front limit ps more zero h = refl
merged_front limit ps more (suc k) h =
    rw (merged_front limit ps more k (omega arith), get_front ps more k (omega arith))
    (ap (λ (l : List FramedMessage). merged_within limit ps k ++ l)
    (completed_front limit ps (ps ++ more) k (slice_get ps k) (take-append-le k ps more (omega arith))))

merged_last : (limit : ℕ) (ps : List Piece) (p : Piece)
    → merged_within limit (ps ++ p ∷ []) (suc (length ps)) ≡ merged_within limit ps (length ps) ++ completed limit ps p
unfolding merged_within
merged_last limit ps p = rw (
  merged_front limit ps (p ∷ []) (length ps)
      (omega arith),
  get_seam ps p,
  take-append_seam ps (p ∷ []),
) refl

pub merged_with : (limit : ℕ) (ps : List Piece) (p : Piece)
    → merged limit (ps ++ p ∷ []) ≡ merged limit ps ++ completed limit ps p
merged_with limit ps p =
    let n : length (ps ++ p ∷ []) ≡ suc (length ps) = omega (arith, length-append ps (p ∷ [])) in
    ap (merged_within limit (ps ++ p ∷ [])) n ∙ merged_last limit ps p

pub stream_last : (d : Direction) (ps : List Piece) (p : Piece) → stream_of d (ps ++ p ∷ []) ≡ stream_of d ps ++ own d p
stream_last d [] p = append-nil (own d p)
stream_last d (x ∷ xs) p = ap (λ (l : List ℕ). own d x ++ l) (stream_last d xs p)
    ∙ sym (append_assoc (own d x) (stream_of d xs) (own d p))

pub tokens_last : (d : Direction) (ps : List Piece) (p : Piece)
    → piece_tokens d (ps ++ p ∷ []) ≡ piece_tokens d ps + own_tokens d p
tokens_last d [] p = omega arith
tokens_last d (x ∷ xs) p = omega (arith, tokens_last d xs p)

frame_more : (limit : ℕ) (tables : List Interface) (ps : List Piece) (p : Piece) (f : FramedMessage) (k : KnownAtPlace)
    → LiesIn limit ps f
    → judged limit tables k (stream_of f.direction (ps ++ p ∷ [])) f
    ≡ judged limit tables k (stream_of f.direction ps) f
frame_more limit tables ps p f k w =
    ap (λ (l : List ℕ). judged limit tables k l f) (stream_last f.direction ps p)
    ∙ judged_if limit tables k (stream_of f.direction ps) (own f.direction p) f (is_size limit f.size) refl w

all_along : (limit : ℕ) (tables : List Interface) (ps : List Piece) (p : Piece) (fs : List FramedMessage)
    → AllByRecursion (LiesIn limit ps) fs
    → judged_along limit tables (λ d. stream_of d ps) (λ d. stream_of d (ps ++ p ∷ [])) fs
all_along limit tables ps p [] a = tt
all_along limit tables ps p (f ∷ fs) a = (
  (λ k. frame_more limit tables ps p f k a.0),
  all_along limit tables ps p fs
      a.1,
)

-- One more piece: the judgements of the earlier messages stay, and those of the messages that it
-- completes follow.
pub messages_more : (limit : ℕ) (tables : List Interface) (ps : List Piece) (p : Piece)
    → messages tables (session_of limit (ps ++ p ∷ []))
    ≡ judged_after limit tables (λ d. stream_of d (ps ++ p ∷ [])) (messages tables (session_of limit ps))
    (completed limit ps p)
messages_more limit tables ps p =
    ap (λ (fs : List FramedMessage). judged_after limit tables (λ d. stream_of d (ps ++ p ∷ [])) [] fs)
    (merged_with limit ps p)
    ∙ after_more limit tables (λ d. stream_of d ps) (λ d. stream_of d (ps ++ p ∷ [])) [] (merged limit ps)
    (completed limit ps p) (all_along limit tables ps p (merged limit ps) (merged_lies limit ps (length ps)))

-- ---- one more message

pub length_last : (e : List Judged) (j : Judged) → length (e ++ j ∷ []) ≡ suc (length e)
length_last e j = omega (arith, length-append e (j ∷ []))

pub changes_last : (tables : List Interface) (e : List Judged) (call : Call)
    → changes_at tables (e ++ Ok call ∷ []) (suc (length e)) ≡ changes tables call
changes_last tables e call = ap (changes_of tables) (get_seam e (Ok call))

pub behind_one : (tables : List Interface) (e : List Judged) (call : Call)
    → IsKnownBehind (suc (length e)) (changes tables call) (known (changes_at tables e) (suc (length e)))
    (known (changes_at tables (e ++ Ok call ∷ [])) (suc (length (e ++ Ok call ∷ []))))
unfolding used server_used advertised_version taken
behind_one tables e call =
    let all = e ++ Ok call ∷ [] in
    let s = changes_at tables all in
    let p = suc (length e) in
    let n : suc (length all) ≡ suc p = ap suc (length_last e (Ok call)) in
    let here : s p ≡ changes tables call = changes_last tables e call in
    let front : known s p ≡ known (changes_at tables e) p = sym (front_known tables e (Ok call ∷ [])) in
    record {
      objects = λ id. ap (λ m. object_named s m id) n ∙ named_next s p id
          ∙ (λ i. object_after p (here i) id ((front i).object id));
      used_is = ap (used s) n ∙ (λ i. used_after (here i) ((front i).used));
      server_used_is = ap (server_used s) n ∙ (λ i. server_used_after (here i) ((front i).server_used));
      advertised_is = λ name iface. ap (λ m. advertised_version s m name iface) n
          ∙ (λ i. advertised_after (here i) name iface ((front i).advertised_version name iface));
      taken_is = λ direction. ap (λ m. taken s m direction) n
          ∙ (λ i. taken_after (here i) direction ((front i).taken direction));
    }

-- ---- what was advertised

pub advertised_more : (changes : MessageChanges) (name iface v : ℕ) → v ≤ advertised_after changes name iface v
advertised_more changes name iface v = advertised_keeps changes.advertised name iface v

pub advertised_own : (changes : MessageChanges) (name : ℕ) (iface : Iface) (version v : ℕ)
    → changes.advertised ≡ Some (record { name = name; iface = iface; version = version })
    → version ≤ advertised_after changes name iface.0 v
advertised_own changes name iface version v e =
    let a : nat_eq name name ≡ true = grind (arith, nat_tests) in
    let b : nat_eq iface.0 iface.0 ≡ true = grind (arith, nat_tests) in
    let there : advertised_by changes.advertised name iface.0 v ≡ max version v = rw (e, a, b) refl in
    omega (arith, there)
