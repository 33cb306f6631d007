-- What words are as the arguments of a call.
use Rattle.std.proofs.Common.{◌≡◌, ℕ, zero, suc, ◌+◌, ◌*◌, ◌<◌, ◌≤◌, ◌^◌, true, false, List, []}
use Rattle.std.proofs.Common.{◌∷◌, ◌++◌, length, drop, get_or, Some, None, refl, sym, ap, ◌∙◌, arith}
use Rattle.std.proofs.Common.{add-one, drop-cons, Fits}
use Rattle.std.proofs.Common.{take, Ok, Err}
use Rattle.std.proofs.lemmas.Bool.{lt-ltb, le-ltb}
use Rattle.std.proofs.lemmas.List.{append-nil, drop_all, length-drop, take_at}
use borrow.Rule.Slice.PartMut.{put_mid}
use Rattle.std.specs.Prelude.{Option}
use Rattle.std.specs.Int.{w32}
use Rattle.std.specs.List.{flat_map}
use Rattle.byteorder.specs.Endian.{little_bytes}
use Rattle.wl_wire.specs.declared.kind.Kind.{Kind}
use Rattle.wl_wire.specs.declared.kind.Kind.TheVariants as kinds
use Rattle.wl_wire.specs.Argument.{Argument}
use Rattle.wl_wire.specs.Spelling.{canonical, spelled_len}
use Rattle.wl_wire.specs.Word.{word, header_bytes}
use Rattle.wl_wire.proofs.Numbers.{complement-signed}
use Rattle.wl_sigs.specs.Tables.{MessageSignature}
use Rattle.wl_object_map.specs.declared.object.Entry.{Entry}
use Rattle.wl_objects.specs.declared.error.SendError.TheVariants as refusals
use Rattle.wl_objects.specs.declared.writing.WordsMessage.{WordsMessage}
use Rattle.wl_objects.specs.Messages.{id_at, signature_unless_wrong}
use Rattle.wl_objects.specs.Writing.{given, given_of, wired, on_wire, suits, wrong_place, lost_place, can_name}
use Rattle.wl_objects.specs.Writing.{message_len, message_bytes, spelled, tokens_of, call_makes}
use Rattle.wl_objects.specs.Writing.{number_by, numbers_by, words_on_wire, words_message, WordsFit}
use Rattle.wl_objects.proofs.Wholes.{length-message}

-- ---- one word

one-named : (rows : ℕ → Option Entry) (kind : Kind) (w : ℕ) → can_name rows kind (given_of (number_by kind w)) ≡ true
one-named rows kinds.Int w = refl
one-named rows kinds.Uint w = refl
one-named rows kinds.Fixed w = refl
one-named rows (kinds.Str null) w = refl
one-named rows (kinds.Obj null iface) w = refl
one-named rows (kinds.New iface) w = refl
one-named rows (kinds.NewByServer iface) w = refl
one-named rows kinds.Array w = refl
one-named rows kinds.Fd w = refl

one-len : (n : ℕ) (kind : Kind) (w : ℕ) → spelled_len (wired n (given_of (number_by kind w))) ≡ 4
one-len n kinds.Int w = refl
one-len n kinds.Uint w = refl
one-len n kinds.Fixed w = refl
one-len n (kinds.Str null) w = refl
one-len n (kinds.Obj null iface) w = refl
one-len n (kinds.New iface) w = refl
one-len n (kinds.NewByServer iface) w = refl
one-len n kinds.Array w = refl
one-len n kinds.Fd w = refl

one-token : (kind : Kind) (w : ℕ) → tokens_of (given_of (number_by kind w) ∷ []) ≡ []
one-token kinds.Int w = refl
one-token kinds.Uint w = refl
one-token kinds.Fixed w = refl
one-token (kinds.Str null) w = refl
one-token (kinds.Obj null iface) w = refl
one-token (kinds.New iface) w = refl
one-token (kinds.NewByServer iface) w = refl
one-token kinds.Array w = refl
one-token kinds.Fd w = refl

one-wired : (n m : ℕ) (kind : Kind) (w : ℕ) → wired n (given_of (number_by kind w)) ≡ wired m (given_of (number_by kind w))
one-wired n m kinds.Int w = refl
one-wired n m kinds.Uint w = refl
one-wired n m kinds.Fixed w = refl
one-wired n m (kinds.Str null) w = refl
one-wired n m (kinds.Obj null iface) w = refl
one-wired n m (kinds.New iface) w = refl
one-wired n m (kinds.NewByServer iface) w = refl
one-wired n m kinds.Array w = refl
one-wired n m kinds.Fd w = refl

one-spelled : (n : ℕ) (kind : Kind) (w : ℕ) → w < 2 ^ 32 → canonical (wired n (given_of (number_by kind w))) ≡ word w
one-spelled n kinds.Int w h = ap word (complement-signed w h)
one-spelled n kinds.Uint w h = refl
one-spelled n kinds.Fixed w h = ap word (complement-signed w h)
one-spelled n (kinds.Str null) w h = refl
one-spelled n (kinds.Obj null iface) w h = refl
one-spelled n (kinds.New iface) w h = refl
one-spelled n (kinds.NewByServer iface) w h = refl
one-spelled n kinds.Array w h = refl
one-spelled n kinds.Fd w h = refl

-- ---- all words

pub numbers-named : (rows : ℕ → Option Entry) (place : ℕ) (ks : List Kind) (words : List ℕ)
    → lost_place rows place ks (given (numbers_by ks words)) ≡ None
numbers-named rows place [] [] = refl
numbers-named rows place [] (w ∷ words) = refl
numbers-named rows place (kind ∷ ks) [] = refl
numbers-named rows place (kind ∷ ks) (w ∷ words) =
    rw (one-named rows kind w) (numbers-named rows (suc place) ks words)

pub numbers-len : (n : ℕ) (ks : List Kind) (words : List ℕ)
    → message_len (on_wire n (numbers_by ks words)) ≡ 8 + 4 * length words
numbers-len n ks [] = refl
numbers-len n [] (w ∷ words) =
    let more : message_len (on_wire n (numbers_by [] words)) ≡ 8 + 4 * length words = numbers-len n [] words in
    omega arith
numbers-len n (kind ∷ ks) (w ∷ words) =
    let more : message_len (on_wire n (numbers_by ks words)) ≡ 8 + 4 * length words = numbers-len n ks words in
    let one : spelled_len (wired n (given_of (number_by kind w))) ≡ 4 = one-len n kind w in
    omega arith

pub numbers-tokens : (ks : List Kind) (words : List ℕ) → tokens_of (given (numbers_by ks words)) ≡ []
numbers-tokens ks [] = refl
numbers-tokens [] (w ∷ words) = numbers-tokens [] words
numbers-tokens (kinds.Int ∷ ks) (w ∷ words) = numbers-tokens ks words
numbers-tokens (kinds.Uint ∷ ks) (w ∷ words) = numbers-tokens ks words
numbers-tokens (kinds.Fixed ∷ ks) (w ∷ words) = numbers-tokens ks words
numbers-tokens (kinds.Str null ∷ ks) (w ∷ words) = numbers-tokens ks words
numbers-tokens (kinds.Obj null iface ∷ ks) (w ∷ words) = numbers-tokens ks words
numbers-tokens (kinds.New iface ∷ ks) (w ∷ words) = numbers-tokens ks words
numbers-tokens (kinds.NewByServer iface ∷ ks) (w ∷ words) = numbers-tokens ks words
numbers-tokens (kinds.Array ∷ ks) (w ∷ words) = numbers-tokens ks words
numbers-tokens (kinds.Fd ∷ ks) (w ∷ words) = numbers-tokens ks words

-- words name no new object
pub numbers-wired : (n m : ℕ) (ks : List Kind) (words : List ℕ)
    → on_wire n (numbers_by ks words) ≡ on_wire m (numbers_by ks words)
numbers-wired n m ks [] = refl
numbers-wired n m [] (w ∷ words) =
    let more = numbers-wired n m [] words in ap (λ (l : List Argument). wired n (given_of (number_by kinds.Uint w)) ∷ l) more
numbers-wired n m (kind ∷ ks) (w ∷ words) =
    let one = one-wired n m kind w in
    let more = numbers-wired n m ks words in λ i. one i ∷ more i

-- words name no object
pub numbers-no-id : (n : ℕ) (ks : List Kind) (words : List ℕ) (k : ℕ) → id_at (on_wire n (numbers_by ks words)) k ≡ 0
numbers-no-id n ks [] k = refl
numbers-no-id n [] (w ∷ words) zero = refl
numbers-no-id n [] (w ∷ words) (suc k) = numbers-no-id n [] words k
numbers-no-id n (kinds.Int ∷ ks) (w ∷ words) zero = refl
numbers-no-id n (kinds.Uint ∷ ks) (w ∷ words) zero = refl
numbers-no-id n (kinds.Fixed ∷ ks) (w ∷ words) zero = refl
numbers-no-id n (kinds.Str null ∷ ks) (w ∷ words) zero = refl
numbers-no-id n (kinds.Obj null iface ∷ ks) (w ∷ words) zero = refl
numbers-no-id n (kinds.New iface ∷ ks) (w ∷ words) zero = refl
numbers-no-id n (kinds.NewByServer iface ∷ ks) (w ∷ words) zero = refl
numbers-no-id n (kinds.Array ∷ ks) (w ∷ words) zero = refl
numbers-no-id n (kinds.Fd ∷ ks) (w ∷ words) zero = refl
numbers-no-id n (kind ∷ ks) (w ∷ words) (suc k) = numbers-no-id n ks words k

-- a call of numbers that suit makes no object
pub numbers-make-none : (place : ℕ) (ks : List Kind) (words : List ℕ)
    → wrong_place place ks (given (numbers_by ks words)) ≡ None → call_makes ks ≡ None
numbers-make-none place [] words h = refl
numbers-make-none place (kind ∷ ks) [] h = absurd (cc)
numbers-make-none place (kinds.Int ∷ ks) (w ∷ words) h = numbers-make-none (suc place) ks words h
numbers-make-none place (kinds.Uint ∷ ks) (w ∷ words) h = numbers-make-none (suc place) ks words h
numbers-make-none place (kinds.Fixed ∷ ks) (w ∷ words) h = numbers-make-none (suc place) ks words h
numbers-make-none place (kinds.Str null ∷ ks) (w ∷ words) h = absurd (cc)
numbers-make-none place (kinds.Obj null iface ∷ ks) (w ∷ words) h = absurd (cc)
numbers-make-none place (kinds.New (Some iface) ∷ ks) (w ∷ words) h = absurd (cc)
numbers-make-none place (kinds.New None ∷ ks) (w ∷ words) h = absurd (cc)
numbers-make-none place (kinds.NewByServer iface ∷ ks) (w ∷ words) h = absurd (cc)
numbers-make-none place (kinds.Array ∷ ks) (w ∷ words) h = absurd (cc)
numbers-make-none place (kinds.Fd ∷ ks) (w ∷ words) h = absurd (cc)

-- ---- the message

-- the bytes of words do not depend on what numbers they are
pub numbers-spelled : (n : ℕ) (ks : List Kind) (words : List ℕ) → ((i : ℕ) → Fits w32 (get_or words i 0))
    → spelled (on_wire n (numbers_by ks words)) ≡ spelled (words_on_wire words)
numbers-spelled n ks [] f = refl
numbers-spelled n [] (w ∷ words) f =
    ap (λ (l : List ℕ). word w ++ l) (numbers-spelled n [] words (λ i. f (suc i)))
numbers-spelled n (kind ∷ ks) (w ∷ words) f =
    let h = f 0 in
    let one : canonical (wired n (given_of (number_by kind w))) ≡ word w = one-spelled n kind w (omega (arith, h)) in
    let more = numbers-spelled n ks words (λ i. f (suc i)) in λ i. one i ++ more i

pub numbers-message : (object opcode n : ℕ) (ks : List Kind) (words : List ℕ) → ((i : ℕ) → Fits w32 (get_or words i 0))
    → message_bytes object opcode (on_wire n (numbers_by ks words)) ≡ message_bytes object opcode (words_on_wire words)
numbers-message object opcode n ks words f =
    let len : message_len (on_wire n (numbers_by ks words)) ≡ message_len (words_on_wire words) =
    numbers-len n ks words ∙ sym (numbers-len 0 [] words) in
    let bytes = numbers-spelled n ks words f in
    λ i. header_bytes (record { object = object; size = len i; opcode = opcode }) ++ bytes i

pub words-len : (m : WordsMessage) → length (words_message m) ≡ 8 + 4 * length m.words.now
words-len m = length-message m.object m.opcode (words_on_wire m.words.now) ∙ numbers-len 0 [] m.words.now

pub words-few : (m : WordsMessage) → WordsFit m → 8 + 4 * length m.words.now ≤ 65535
words-few m fits = let short = fits.short in let len = numbers-len 0 [] m.words.now in omega (arith, short, len)

-- the words that `byteorder` writes
pub words-flat : (words : List ℕ) → flat_map (λ w. little_bytes 4 w) words ≡ spelled (words_on_wire words)
words-flat [] = refl
words-flat (w ∷ words) = ap (λ (l : List ℕ). word w ++ l) (words-flat words)

-- ---- from a place on

pub wrong-word-missing : (i : ℕ) (ks : List Kind) (words : List ℕ) (k : Kind) → i < length ks → length words ≤ i
    → wrong_place i (drop i ks) (given (numbers_by (drop i ks) (drop i words))) ≡ Some i
wrong-word-missing i ks words k p q = rw (drop-cons ks i k p, drop_all i words q) refl

pub wrong-word-kind : (i : ℕ) (ks : List Kind) (words : List ℕ) (k : Kind) → i < length ks → i < length words
    → suits (get_or ks i k) (given_of (number_by (get_or ks i k) (get_or words i 0))) ≡ false
    → wrong_place i (drop i ks) (given (numbers_by (drop i ks) (drop i words))) ≡ Some i
wrong-word-kind i ks words k p q e = rw (drop-cons ks i k p, drop-cons words i 0 q, e) refl

pub wrong-word-next : (i : ℕ) (ks : List Kind) (words : List ℕ) (k : Kind) → i < length ks → i < length words
    → suits (get_or ks i k) (given_of (number_by (get_or ks i k) (get_or words i 0))) ≡ true
    → wrong_place i (drop i ks) (given (numbers_by (drop i ks) (drop i words)))
    ≡ wrong_place (i + 1) (drop (i + 1) ks) (given (numbers_by (drop (i + 1) ks) (drop (i + 1) words)))
wrong-word-next i ks words k p q e = rw (add-one, drop-cons ks i k p, drop-cons words i 0 q, e) refl

pub wrong-word-more : (i : ℕ) (ks : List Kind) (words : List ℕ) → length ks ≤ i → i < length words
    → wrong_place i (drop i ks) (given (numbers_by (drop i ks) (drop i words))) ≡ Some i
wrong-word-more i ks words p q = rw (drop_all i ks p, drop-cons words i 0 q) refl

pub wrong-word-none : (i : ℕ) (ks : List Kind) (words : List ℕ) → length ks ≤ i → length words ≤ i
    → wrong_place i (drop i ks) (given (numbers_by (drop i ks) (drop i words))) ≡ None
wrong-word-none i ks words p q = rw (drop_all i ks p, drop_all i words q) refl

-- ---- what is found about all words

pub words-long : (limit : ℕ) (rows : ℕ → Option Entry) (ks : List Kind) (words : List ℕ) (signature : MessageSignature)
    → wrong_place 0 ks (given (numbers_by ks words)) ≡ None → limit < 8 + 4 * length words
    → signature_unless_wrong limit (wrong_place 0 ks (given (numbers_by ks words)))
    (lost_place rows 0 ks (given (numbers_by ks words))) (message_len (on_wire 0 (numbers_by ks words))) signature
    ≡ Err refusals.TooLong
words-long limit rows ks words signature right long =
    rw (right, numbers-named rows 0 ks words, numbers-len 0 ks words, lt-ltb limit (8 + 4 * length words) long) refl

pub words-pass : (limit : ℕ) (rows : ℕ → Option Entry) (ks : List Kind) (words : List ℕ) (signature : MessageSignature)
    → wrong_place 0 ks (given (numbers_by ks words)) ≡ None → 8 + 4 * length words ≤ limit
    → signature_unless_wrong limit (wrong_place 0 ks (given (numbers_by ks words)))
    (lost_place rows 0 ks (given (numbers_by ks words))) (message_len (on_wire 0 (numbers_by ks words))) signature
    ≡ Ok signature
words-pass limit rows ks words signature right short =
    rw (right, numbers-named rows 0 ks words, numbers-len 0 ks words, le-ltb limit (8 + 4 * length words) short) refl

-- the header, and the words behind it
pub words-written : (m : WordsMessage) (size k : ℕ) (out rest x : List ℕ)
    → out ≡ header_bytes (record { object = m.object; size = size; opcode = m.opcode }) ++ rest
    → size ≡ message_len (words_on_wire m.words.now) → length out ≤ 8 + k
    → x ≡ flat_map (λ w. little_bytes 4 w) m.words.now → put_mid 8 k out x ≡ words_message m
words-written m size k out rest x front len whole is =
    let head : List ℕ = header_bytes (record { object = m.object; size = size; opcode = m.opcode }) in
    let first : take 8 out ≡ head = ap (take 8) front ∙ take_at head rest 8 refl in
    let none : drop k (drop 8 out) ≡ [] = drop_all k (drop 8 out) (omega (arith, length-drop 8 out)) in
    (λ i. first i ++ (x ++ none i))
    ∙ ap (λ (l : List ℕ). head ++ l) (append-nil x ∙ is ∙ words-flat m.words.now)
    ∙ ap (λ (n : ℕ). header_bytes (record { object = m.object; size = n; opcode = m.opcode })
    ++ spelled (words_on_wire m.words.now)) len
