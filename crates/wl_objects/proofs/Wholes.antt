-- Whole messages: their lengths, their spellings, what is wrong with a call, and how one end reads
-- what the other wrote.
use Rattle.std.proofs.Common.{◌≡◌, ◌≢◌, ℕ, suc, ◌+◌, ◌%◌, ◌<◌, ◌≤◌, ◌^◌, Bool, true, false, List}
use Rattle.std.proofs.Common.{[], ◌∷◌, ◌++◌, length, map, Some, None, refl, sym, ap, subst, ◌∙◌}
use Rattle.std.proofs.Common.{arith, length-append}
use Rattle.std.specs.Prelude.{Option, if◌then◌else◌, nat_eq, nat_lt, ◌&&◌}
use Rattle.std.specs.List.{All}
use Rattle.std.specs.declared.result.Result.TheVariants.{Ok, Err}
use Rattle.std.proofs.lemmas.Bool.{and_parts, eqb-true, eq-eqb, ltb-false, le-ltb, and_left, or_parts}
use Rattle.std.proofs.lemmas.List.{append-nil}
use Rattle.std.proofs.lemmas.List.Elements.{All-tail}
use Rattle.wl_wire.specs.declared.kind.Kind.{Kind}
use Rattle.wl_wire.specs.declared.kind.Iface.{Iface}
use Rattle.wl_wire.specs.Argument.{Argument, Int, Uint, Fixed, Str, Obj, New, NewNamed, Array, Fd}
use Rattle.wl_wire.specs.Word.{header_bytes}
use Rattle.wl_wire.specs.Spelling.{Suits, canonical, spelled_len, padded}
use Rattle.wl_wire.proofs.Canonicals.{canonical-spells, canonical-len}
use Rattle.wl_sigs.specs.Side.{Side}
use Rattle.wl_sigs.specs.Side.TheVariants.{Request, Event}
use Rattle.wl_sigs.specs.Fixed.{display, registry}
use Rattle.wl_sigs.specs.Tables.{MessageSignature, Interface, signature_at, descriptors}
use Rattle.wl_object_map.specs.declared.object.Object.{Object}
use Rattle.wl_object_map.specs.declared.object.Entry.{Entry}
use Rattle.wl_objects.specs.declared.error.SendError.TheVariants as refusals
use Rattle.wl_object_map.specs.Objects.{Objects, look}
use Rattle.wl_objects.specs.Reading.{Reader, forgiving_kind, forgiving, arguments_at}
use Rattle.wl_objects.specs.Spelling.{SpellsAll, MeetsKinds}
use Rattle.wl_objects.specs.Spelling as spelling
use Rattle.wl_objects.specs.Writing.{Given, wired, spelled, suits, wrong_place, lost_place}
use Rattle.wl_objects.specs.Writing.{is_live_as, message_len, message_bytes, tokens_of}
use Rattle.wl_objects.specs.Messages.{received, is_error, is_hidden, same_iface, checked}
use Rattle.wl_objects.specs.Messages.{checked_as, checked_by, live_row, unless_hidden, signature_unless_wrong}
use Rattle.wl_objects.specs.Messages.{signature_within_limit}
use Rattle.wl_objects.specs.Carried.{InRange, AreExpected, IsTarget, CallPasses, received_as_meant}
use Rattle.wl_object_map.specs.View.{lives}
use Rattle.wl_objects.proofs.WrittenArrives.{if-none, suits-wired, All-first, arrive-read, arrive-taken}

-- ---- lengths

pub length-spelled : (values : List Argument) → 8 + length (spelled values) ≡ message_len values
length-spelled [] = refl
length-spelled (value ∷ values) =
    let more : 8 + length (spelled values) ≡ message_len values = length-spelled values in
    let one : length (canonical value) ≡ spelled_len value = canonical-len value in
    omega (arith, length-append (canonical value) (spelled values))

pub length-message : (object opcode : ℕ) (values : List Argument)
    → length (message_bytes object opcode values) ≡ message_len values
length-message object opcode values =
    let h : length (header_bytes (record { object = object; size = message_len values; opcode = opcode })) ≡ 8 = refl in
    omega (
      arith,
      h,
      length-spelled values,
      length-append
          (header_bytes (record { object = object; size = message_len values; opcode = opcode })) (spelled values),
    )

padded-words : (n : ℕ) → padded n % 4 ≡ 0
padded-words n = omega arith

value-words : (value : Argument) → spelled_len value % 4 ≡ 0
value-words (Int z) = refl
value-words (Uint n) = refl
value-words (Fixed z) = refl
value-words (Str None) = refl
value-words (Str (Some text)) = let p = padded-words (length text + 1) in omega arith
value-words (Obj id) = refl
value-words (New id) = refl
value-words (NewNamed iface version id) = let p = padded-words (length iface + 1) in omega arith
value-words (Array bytes) = let p = padded-words (length bytes) in omega arith
value-words (Fd x) = refl

pub message-words : (values : List Argument) → message_len values % 4 ≡ 0
message-words [] = refl
message-words (value ∷ values) =
    let more : message_len values % 4 ≡ 0 = message-words values in
    let one : spelled_len value % 4 ≡ 0 = value-words value in
    omega arith

-- ---- spellings

-- arguments that are read with nothing left are spelled by the whole body
pub meets-spelled : {r : Reader} {place : ℕ} {ks : List Kind} {bytes : List ℕ} {values : List Argument} {rest : List ℕ}
    → MeetsKinds r place ks bytes values rest → rest ≡ [] → SpellsAll (map (forgiving_kind r.forgives) ks) values bytes
meets-spelled {r} spelling.none e = spelling.none e
meets-spelled {r} (spelling.more s f m b) e = spelling.more s (meets-spelled m e) b

-- what is written spells the values
pub written-spelled : (n place : ℕ) (ks : List Kind) (list : List Given) → n < 2 ^ 32 → wrong_place place ks list ≡ None
    → All InRange list
    → ((object : Object) → All (λ x. x ≡ Obj (Some object) → object.id ≢ 0) list)
    → SpellsAll ks (map (wired n) list) (spelled (map (wired n) list))
written-spelled n place [] [] b w i o = spelling.none refl
written-spelled n place [] (x ∷ list) b w i o = absurd (cc)
written-spelled n place (kind ∷ ks) [] b w i o = absurd (cc)
written-spelled n place (kind ∷ ks) (x ∷ list) b w i o =
    let suit = if-none (suits kind x) (wrong_place (suc place) ks list) place w in
    let value : Suits kind (wired n x) = suits-wired n kind x suit.0 (All-first InRange x list i) b
    (λ (object : Object). All-first (λ (y : Given). y ≡ Obj (Some object) → object.id ≢ 0) x list (o object)) in
    spelling.more (canonical-spells kind (wired n x) value)
    (written-spelled n (suc place) ks list b suit.1 (All-tail InRange x list i)
    (λ (object : Object). All-tail (λ (y : Given). y ≡ Obj (Some object) → object.id ≢ 0) x list (o object))) refl

-- ---- calls

checked-of : (limit : ℕ) (list : List Given) (len : ℕ) (signature found : MessageSignature)
    → signature_within_limit limit len signature ≡ Ok found → (found ≡ signature) × (len ≤ limit)
checked-of limit list len signature found e = by_length (nat_lt limit len) refl e
  where
    by_length : (b : Bool) → nat_lt limit len ≡ b → (if b then Err refusals.TooLong else Ok signature) ≡ Ok found
        → (found ≡ signature) × (len ≤ limit)
    by_length true t e = absurd (cc)
    by_length false t e = (cc, ltb-false limit len t)

checked-places : (limit : ℕ) (wrong lost : Option ℕ) (len : ℕ) (signature found : MessageSignature)
    → signature_unless_wrong limit wrong lost len signature ≡ Ok found
    → (wrong ≡ None) × (lost ≡ None) × (found ≡ signature) × (len ≤ limit)
checked-places limit (Some place) lost len signature found e = absurd (cc)
checked-places limit None (Some place) len signature found e = absurd (cc)
checked-places limit None None len signature found e = let o = checked-of limit [] len signature found e
    in (refl, refl, o.0, o.1)

-- what a checked call says about a signature and a row
checked-signature : (limit : ℕ) (view : Objects) (list : List Given) (entry : Entry) (at : Option MessageSignature)
    (found : MessageSignature) → checked_as limit view list entry at ≡ Ok found
    → (at ≡ Some found) × (found.since ≤ entry.version) × (wrong_place 0 found.kinds list ≡ None)
    × (lost_place (look view) 0 found.kinds list ≡ None) × (message_len (map (wired 0) list) ≤ limit)
checked-signature limit view list entry None found e = absurd (cc)
checked-signature limit view list entry (Some signature) found e =
    by_version (nat_lt entry.version signature.since) refl e
  where
    by_version : (b : Bool) → nat_lt entry.version signature.since ≡ b
        → (if b then Err refusals.TooOld else signature_unless_wrong limit (wrong_place 0 signature.kinds list)
        (lost_place (look view) 0 signature.kinds list) (message_len (map (wired 0) list)) signature) ≡ Ok found
        → (Some signature ≡ Some found) × (found.since ≤ entry.version) × (wrong_place 0 found.kinds list ≡ None)
        × (lost_place (look view) 0 found.kinds list ≡ None) × (message_len (map (wired 0) list) ≤ limit)
    by_version true t e = absurd (cc)
    by_version false t e =
        let p = checked-places limit (wrong_place 0 signature.kinds list)
        (lost_place (look view) 0 signature.kinds list) (message_len (map (wired 0) list)) signature found e in
        let Want : MessageSignature → Type 0 = λ m. (Some signature ≡ Some m) × (m.since ≤ entry.version)
        × (wrong_place 0 m.kinds list ≡ None) × (lost_place (look view) 0 m.kinds list ≡ None)
        × (message_len (map (wired 0) list) ≤ limit) in
        subst Want (sym p.2) (refl, ltb-false entry.version signature.since t, p.0, p.1, p.3)

pub shown-signature : (b : Bool) (at : Option MessageSignature) (found : MessageSignature)
    → unless_hidden b at ≡ Some found
    → (b ≡ false) × (at ≡ Some found)
shown-signature true at found e = absurd (cc)
shown-signature false at found e = (refl, e)

pub live-target : (view : Objects) (target : Object) (entry : Entry) → live_row view target ≡ Some entry
    → (look view target.id ≡ Some entry) × (entry.birth ≡ target.birth) × (lives entry.state ≡ true)
live-target view target entry e = by_row (look view target.id) refl e
  where
    by_row : (row : Option Entry) → look view target.id ≡ row
        → (if is_live_as target.birth row then row else None) ≡ Some entry
        → (look view target.id ≡ Some entry) × (entry.birth ≡ target.birth) × (lives entry.state ≡ true)
    by_row None l e = absurd (cc)
    by_row (Some row) l e = by_test (nat_eq row.birth target.birth && lives row.state) refl e
      where
        by_test : (b : Bool) → (nat_eq row.birth target.birth && lives row.state) ≡ b
            → (if b then Some row else None) ≡ Some entry
            → (look view target.id ≡ Some entry) × (entry.birth ≡ target.birth) × (lives entry.state ≡ true)
        by_test false t e = absurd (cc)
        by_test true t e =
            let same : row ≡ entry = cc in
            let parts = and_parts (nat_eq row.birth target.birth) (lives row.state) t in
            let Want : Entry → Type 0 = λ r. (r.birth ≡ target.birth) × (lives r.state ≡ true) in
            let want = subst Want same (eqb-true row.birth target.birth parts.0, parts.1) in
            (l ∙ ap (λ (r : Entry). Some r) same, want.0, want.1)

checked-found : (limit : ℕ) (tables : List Interface) (side : Side) (view : Objects) (target : Object) (opcode : ℕ)
    (list : List Given) (found : MessageSignature) (at : Option Entry) → live_row view target ≡ at
    → checked_by limit tables side view opcode list at ≡ Ok found
    → CallPasses limit tables side view target opcode list found
checked-found limit tables side view target opcode list found None l e = absurd (cc)
checked-found limit tables side view target opcode list found (Some entry) l e =
    let s = checked-signature limit view list entry
    (unless_hidden (is_hidden side entry.iface opcode) (signature_at tables entry.iface.0 side opcode)) found e
    in
    let shown = shown-signature (is_hidden side entry.iface opcode)
    (signature_at tables entry.iface.0 side opcode) found s.0 in
    let live = live-target view target entry l in
    record {
      entry = entry;
      row = live.0;
      birth = live.1;
      live = live.2;
      shown = shown.0;
      exists = shown.1;
      since = s.1;
      suit = s.2;
      can_name = s.3;
      len = s.4;
    }

pub passes : (limit : ℕ) (tables : List Interface) (side : Side) (view : Objects) (target : Object) (opcode : ℕ)
    (list : List Given) (found : MessageSignature)
    → checked limit tables side view target opcode list ≡ Ok found
    → CallPasses limit tables side view target opcode list found
passes limit tables side view target opcode list found e =
    checked-found limit tables side view target opcode list found (live_row view target) refl e

pub live-row : (view : Objects) (target : Object) (entry : Entry) → look view target.id ≡ Some entry
    → entry.birth ≡ target.birth → lives entry.state ≡ true → live_row view target ≡ Some entry
live-row view target entry row birth live = let same : nat_eq entry.birth target.birth ≡ true =
    eq-eqb entry.birth target.birth birth in rw (row, same, live) refl

pub passed : (limit : ℕ) (tables : List Interface) (side : Side) (view : Objects) (target : Object) (opcode : ℕ)
    (list : List Given) (found : MessageSignature)
    → CallPasses limit tables side view target opcode list found
    → checked limit tables side view target opcode list ≡ Ok found
passed limit tables side view target opcode list found p =
    let row = live-row view target p.entry p.row p.birth p.live in
    let since : nat_lt p.entry.version found.since ≡ false = le-ltb p.entry.version found.since p.since in
    let len : nat_lt limit (message_len (map (wired 0) list)) ≡ false =
    le-ltb limit (message_len (map (wired 0) list)) p.len in
    rw (row, p.shown, p.exists, since, p.suit, p.can_name, len) refl

-- ---- a whole message

-- a message that a call can write is no wl_display.error
pub shown-error : (side : Side) (iface : Iface) (opcode : ℕ) → is_hidden side iface opcode ≡ false
    → is_error side iface opcode ≡ false
shown-error Request iface opcode e = refl
shown-error Event iface opcode e = and_left (same_iface iface display) (nat_eq opcode 0)
    (or_parts (same_iface iface display) (same_iface iface registry) e).0

forgiving-not : (r : Reader) → r.forgives ≡ false → forgiving false r ≡ r
forgiving-not r f = let g : false ≡ r.forgives = sym f in λ i. record r { forgives = g i }

pub message-arrives : (limit : ℕ) (tables : List Interface) (side : Side) (view : Objects) (r : Reader) (target : Object)
    (opcode size n waiting : ℕ) (list : List Given) (signature : MessageSignature)
    (p : CallPasses limit tables side view target opcode list signature) (t : IsTarget p.entry r target)
    → r.forgives ≡ false → n < 2 ^ 32 → All InRange list → AreExpected (look view) r n signature.kinds list
    → length (tokens_of list) ≤ waiting
    → received tables side r (record { object = target.id; size = size; opcode = opcode })
    (spelled (map (wired n) list)) waiting ≡ Ok (received_as_meant target t.row signature (map (wired n) list))
message-arrives limit tables side view r target opcode size n waiting list signature p t f b i h w =
    let exists : signature_at tables t.row.iface.0 side opcode ≡ Some signature =
    subst (λ (iface : Iface). signature_at tables iface.0 side opcode ≡ Some signature)
    (sym t.iface) p.exists in
    let since : nat_lt t.row.version signature.since ≡ false =
    le-ltb t.row.version signature.since (omega (arith, t.version, p.since)) in
    let plain : is_error side t.row.iface opcode ≡ false =
    shown-error side t.row.iface opcode (subst (λ (iface : Iface). is_hidden side iface opcode ≡ false)
    (sym t.iface) p.shown) in
    let same : forgiving false r ≡ r = forgiving-not r f in
    let whole : spelled (map (wired n) list) ++ [] ≡ spelled (map (wired n) list) =
    append-nil (spelled (map (wired n) list)) in
    let read : arguments_at r 0 signature.kinds (spelled (map (wired n) list)) ≡ Ok (map (wired n) list, []) =
    subst (λ (bytes : List ℕ). arguments_at r 0 signature.kinds bytes ≡ Ok (map (wired n) list, [])) whole
    (arrive-read (look view) r n 0 signature.kinds list [] b f p.suit p.can_name i h) in
    let enough : nat_lt waiting (descriptors signature.kinds) ≡ false =
    le-ltb waiting (descriptors signature.kinds) (omega (arith, arrive-taken 0 signature.kinds list p.suit)) in
    rw (t.held, exists, since, plain, same, read, enough, t.birth) refl
