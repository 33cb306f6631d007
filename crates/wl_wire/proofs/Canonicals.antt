-- Spellings of values: each value that suits a kind has one, and no spelling begins another.
use Rattle.std.proofs.Common.{◌≡◌, ℕ, suc, ◌+◌, ◌-◌, ◌*◌, ◌/◌, ◌%◌, ◌^◌, ◌<◌, ◌≤◌, List, [], ◌∷◌}
use Rattle.std.proofs.Common.{◌++◌, length, take, drop, Some, None, refl, sym, ap, ◌∙◌, arith}
use Rattle.std.proofs.Common.{append_assoc}
use Rattle.std.specs.Prelude.{Result, Ok, FitsSigned, ℤ}
use Rattle.std.specs.Result.{result_unwrap_or}
use Rattle.std.specs.Int.{w32}
use Rattle.std.proofs.lemmas.List.{length-append, length-replicate, length-drop, take_at, take_all, take-append-drop}
use Rattle.std.proofs.lemmas.List.Elements.{All-drop}
use Rattle.wl_wire.specs.declared.kind.Kind.{Kind}
use Rattle.wl_wire.specs.declared.kind.Kind.TheVariants as kinds
use Rattle.wl_wire.specs.declared.kind.ArgFault.{ArgFault}
use Rattle.wl_wire.specs.declared.header.Header.{Header}
use Rattle.wl_wire.specs.Word.{word, int_word, complement, header_bytes, header_at, IsHeader}
use Rattle.wl_wire.specs.Argument.{Argument, Int, Uint, Fixed, Str, Obj, New, NewNamed, Array, Fd}
use Rattle.wl_wire.specs.Spelling.{Spells, SpellsText, IsText, padded, zeros, text_bytes, canonical, spelled_len, Suits}
use Rattle.wl_wire.specs.Spelling.{is_int, is_uint, is_fixed, is_null, is_text, is_object, is_new, is_named, is_array}
use Rattle.wl_wire.specs.Spelling.{is_descriptor, is_new_by_server}
use Rattle.wl_wire.specs.Reading.{reading, number_at, signed}
use Rattle.wl_wire.proofs.Numbers.{Bytewise, word-number_at, number_at-word, complement_fits, signed-complement}
use Rattle.wl_wire.proofs.Fronts.{reading-spelled, text_front}

same_found : (v w : Argument) (m n : ℕ) → ◌≡◌ {A = Result (Argument × ℕ) ArgFault} (Ok (v, m)) (Ok (w, n))
    → (v ≡ w) × (m ≡ n)
same_found v w m n e = let p = ap (λ (r : Result (Argument × ℕ) ArgFault). result_unwrap_or r (v, m)) e
    in (ap (λ (x : Argument × ℕ). x.0) p, ap (λ (x : Argument × ℕ). x.1) p)

-- No spelling of a kind begins another.
pub one_spelling : (kind : Kind) (v w : Argument) (a b x y : List ℕ) → Spells kind v a → Spells kind w b
    → a ++ x ≡ b ++ y → (v ≡ w) × (a ≡ b)
one_spelling kind v w a b x y s t e =
    let both = same_found v w (length a) (length b)
    (sym (reading-spelled x s) ∙ ap (reading kind) e ∙ reading-spelled y t) in
    (both.0, sym (take_at a x (length a) refl) ∙ ap (take (length a)) e ∙ take_at b y (length a) (sym both.1))

-- a canonical spelling is a spelling

text_spells : (text : List ℕ) → IsText text → SpellsText text (text_bytes text)
text_spells text t =
    let n : ℕ = length text + 1 in
    let more : ℕ = padded n - n in
    let split : padded n - length text ≡ suc more = omega arith in
    let after : zeros (padded n - length text) ≡ 0 ∷ zeros more = ap zeros split in
    let shape : text ++ zeros (padded n - length text) ≡ (text ++ 0 ∷ []) ++ zeros more =
    ap (λ (l : List ℕ). text ++ l) after ∙ sym (append_assoc text (0 ∷ []) (zeros more)) in
    let one : length (text ++ 0 ∷ []) ≡ n = length-append text (0 ∷ []) in
    record {
      text_fits = t;
      rest = text ++ zeros (padded n - length text);
      padded_rest = record {
        padding = zeros more;
        whole = shape;
        len = length-append text (zeros (padded n - length text))
            ∙ ap (λ (k : ℕ). length text + k) (length-replicate (padded n - length text) 0)
            ∙ (let e : length text + (padded n - length text) ≡ padded n = omega arith in e) ∙ ap padded (sym one);
      };
      whole = refl;
    }

array_spells : (bytes : List ℕ) → length bytes < 2 ^ 32 → Spells kinds.Array (Array bytes) (canonical (Array bytes))
array_spells bytes f =
    let k : ℕ = padded (length bytes) - length bytes in
    is_array {rest = bytes ++ zeros k} f (record {
      padding = zeros k;
      whole = refl;
      len = length-append bytes (zeros k) ∙ ap (λ (m : ℕ). length bytes + m) (length-replicate k 0)
          ∙ (let e : length bytes + k ≡ padded (length bytes) = omega arith in e);
    }) refl

pub canonical-spells : (kind : Kind) (value : Argument) → Suits kind value → Spells kind value (canonical value)
canonical-spells kinds.Int (Int z) h = is_int h refl
canonical-spells kinds.Uint (Uint n) h = is_uint h refl
canonical-spells kinds.Fixed (Fixed z) h = is_fixed h refl
canonical-spells (kinds.Str null) (Str None) h = is_null h refl
canonical-spells (kinds.Str null) (Str (Some text)) h = is_text (text_spells text h)
canonical-spells (kinds.Obj null iface) (Obj id) h = is_object h.0 h.1 refl
canonical-spells (kinds.New (Some iface)) (New id) h = is_new h refl
canonical-spells (kinds.New None) (NewNamed iface version id) h = is_named (text_spells iface h.0) h.1 h.2 refl
canonical-spells (kinds.NewByServer iface) (New id) h = is_new_by_server h refl
canonical-spells kinds.Array (Array bytes) h = array_spells bytes h
canonical-spells kinds.Fd (Fd tt) h = is_descriptor refl
canonical-spells _ _ h = absurd h

-- a value that has a spelling of the kind suits the kind; the spelling has the value's length
pub spelled-suits : {kind : Kind} {value : Argument} {bytes : List ℕ} → Spells kind value bytes → Suits kind value
spelled-suits (is_int f e) = f
spelled-suits (is_uint f e) = f
spelled-suits (is_fixed f e) = f
spelled-suits (is_null t e) = t
spelled-suits (is_text s) = s.text_fits
spelled-suits (is_object f t e) = (f, t)
spelled-suits (is_new f e) = f
spelled-suits (is_new_by_server f e) = f
spelled-suits (is_named s f g e) = (s.text_fits, f, g)
spelled-suits (is_array f p e) = f
spelled-suits (is_descriptor e) = tt

pub spelled-len : {kind : Kind} {value : Argument} {bytes : List ℕ} → Spells kind value bytes
    → length bytes ≡ spelled_len value
spelled-len (is_int f e) = ap length e
spelled-len (is_uint f e) = ap length e
spelled-len (is_fixed f e) = ap length e
spelled-len (is_null t e) = ap length e
spelled-len (is_text s) = (text_front [] s).len
spelled-len (is_object f t e) = ap length e
spelled-len (is_new f e) = ap length e
spelled-len (is_new_by_server f e) = ap length e
spelled-len (is_named {front = front} {version = version} {id = id} s f g e) = let l = ap length e
    in omega (
      arith,
      l,
      (text_front [] s).len,
      length-append front (word version),
      length-append (front ++ word version)
          (word id),
    )
spelled-len (is_array {array = array} f p e) = let l = ap length e in omega (arith, l, p.len)
spelled-len (is_descriptor e) = ap length e

-- A written value is read back, whatever follows it.
pub reading-canonical : (kind : Kind) (value : Argument) (rest : List ℕ) → Suits kind value
    → reading kind (canonical value ++ rest) ≡ Ok (value, spelled_len value)
reading-canonical kind value rest h = let s = canonical-spells kind value h
    in reading-spelled rest s ∙ ap (λ (n : ℕ). Ok (value, n)) (spelled-len s)

-- words

pub one_word : (m n : ℕ) → m < 2 ^ 32 → n < 2 ^ 32 → word m ≡ word n → m ≡ n
one_word m n f g e = sym (number_at-word m [] f) ∙ ap (λ (l : List ℕ). number_at (l ++ [])) e ∙ number_at-word n [] g

pub one_int_word : (y z : ℤ) → FitsSigned w32 y → FitsSigned w32 z → int_word y ≡ int_word z → y ≡ z
one_int_word y z f g e = sym (signed-complement y f)
    ∙ ap signed (one_word (complement y) (complement z) (complement_fits y f) (complement_fits z g) e)
    ∙ signed-complement z g

-- headers

pub header_at-bytes : (h : Header) (rest : List ℕ) → IsHeader h → header_at (header_bytes h ++ rest) ≡ h
header_at-bytes h rest f =
    let second : number_at (word (h.size * 65536 + h.opcode) ++ rest) ≡ h.size * 65536 + h.opcode =
    number_at-word (h.size * 65536 + h.opcode) rest (omega (arith, f.size, f.opcode)) in
    let first : number_at (header_bytes h ++ rest) ≡ h.object =
    number_at-word h.object (word (h.size * 65536 + h.opcode) ++ rest) f.object in
    let size : (h.size * 65536 + h.opcode) / 65536 ≡ h.size = omega (arith, f.opcode) in
    let opcode : (h.size * 65536 + h.opcode) % 65536 ≡ h.opcode = omega (arith, f.opcode) in
    rw (first, second, size, opcode) refl

pub header_bytes-at : (bytes : List ℕ) → Bytewise bytes → length bytes ≡ 8 → header_bytes (header_at bytes) ≡ bytes
header_bytes-at bytes w h =
    let second : ℕ = number_at (drop 4 bytes) in
    let halves : second / 65536 * 65536 + second % 65536 ≡ second = omega arith in
    let first_word : take 4 bytes ≡ word (number_at bytes) = word-number_at bytes (omega arith) w in
    let len : length (drop 4 bytes) ≡ 4 = omega (arith, length-drop 4 bytes) in
    let second_word : drop 4 bytes ≡ word second =
    sym (take_all 4 (drop 4 bytes) (omega arith))
    ∙ word-number_at (drop 4 bytes) (omega arith) (All-drop (λ (b : ℕ). b < 256) 4 bytes w) in
    ap (λ (n : ℕ). word (number_at bytes) ++ word n) halves
    ∙ ap (λ (l : List ℕ). word (number_at bytes) ++ l) (sym second_word)
    ∙ ap (λ (l : List ℕ). l ++ drop 4 bytes) (sym first_word) ∙ take-append-drop 4 bytes

-- the length of any value's canonical spelling

counted_len : (bytes : List ℕ) (n : ℕ) → length bytes ≤ n
    → length (word n ++ bytes ++ zeros (padded n - length bytes)) ≡ 4 + padded n
counted_len bytes n h =
    let k : ℕ = padded n - length bytes in
    let l = length-append bytes (zeros k) in
    let z : length (zeros k) ≡ k = length-replicate k 0 in
    omega (arith, l, z)

pub canonical-len : (value : Argument) → length (canonical value) ≡ spelled_len value
canonical-len (Int z) = refl
canonical-len (Uint n) = refl
canonical-len (Fixed z) = refl
canonical-len (Str None) = refl
canonical-len (Str (Some text)) = counted_len text (length text + 1) (omega arith)
canonical-len (Obj id) = refl
canonical-len (New id) = refl
canonical-len (NewNamed iface version id) = let l = counted_len iface (length iface + 1) (omega arith)
    in omega (
      arith,
      l,
      length-append (text_bytes iface) (word version),
      length-append
          (text_bytes iface ++ word version) (word id),
    )
canonical-len (Array bytes) = counted_len bytes (length bytes) (omega arith)
canonical-len (Fd tt) = refl
