-- Values written over the front of bytes.
use Rattle.std.proofs.Common.{◌≡◌, ℕ, zero, suc, ◌+◌, ◌-◌, ◌≤◌, List, ◌++◌, length, take, drop, refl, sym, ap, ◌∙◌}
use Rattle.std.proofs.Common.{arith, rules, append_assoc}
use Rattle.std.proofs.lemmas.List.{append-nil, length-append, drop_all, drop-drop, drop-append-le}
use Rattle.std.proofs.lemmas.List.{length-drop, length-take-le, take_at, drop_at}
use Rattle.std.proofs.Math.Seq.{drop-append-add}
use Rattle.byteorder.specs.Endian.{little_bytes}
use borrow.Rule.Slice.PartMut.{put_mid}
use Rattle.wl_wire.specs.Spelling.{padded, zeros}
use Rattle.wl_wire.specs.Word.{word}

zeros_behind : (j : ℕ) → j ≤ 4 → drop j (word 0) ≡ zeros (4 - j)
zeros_behind zero h = refl
zeros_behind (suc zero) h = refl
zeros_behind (suc (suc zero)) h = refl
zeros_behind (suc (suc (suc zero))) h = refl
zeros_behind (suc (suc (suc (suc zero)))) h = refl
zeros_behind (suc (suc (suc (suc (suc j))))) h = absurd (omega arith)

-- a value that replaces the rest of bytes, from a place on
pub over-rest : {X : Type 0} (a k : ℕ) (out v : List X) → a ≤ length out → k ≡ length out - a → put_mid a k out v ≡ take a out ++ v
over-rest a k out v low size =
    ap (λ l. take a out ++ (v ++ l)) (drop_all k (drop a out) (omega (arith, length-drop a out)))
    ∙ ap (λ l. take a out ++ l) (append-nil v)

-- a number's word, as `LittleEndian` writes it
pub word-written : (n : ℕ) → little_bytes 4 n ≡ word n
word-written n = search rules

-- a number written over the front of what was there
pub over-word : (n : ℕ) (old new there : List ℕ) → new ≡ little_bytes 4 n ++ drop 4 old → old ≡ there
    → new ≡ word n ++ drop 4 there
over-word n old new there e is = e ∙ (λ i. word-written n i ++ drop 4 (is i))

-- a length, bytes and padding, written in this order: the last word, the length, the bytes
pub over-padded : (out bytes v u y : List ℕ) (len e k : ℕ) → e ≡ 4 + padded len → e ≤ length out → length bytes ≤ len
    → len ≤ length bytes + 1
    → k ≡ length out - (e - 4) → v ≡ word 0 ++ drop 4 (drop (e - 4) out)
    → u ≡ word len ++ drop 4 (put_mid (e - 4) k out v) → y ≡ bytes
    → put_mid 4 (length bytes) u y ≡ ((word len ++ bytes) ++ zeros (padded len - length bytes))
    ++ drop (4 + padded len) out
over-padded out bytes v u y len e k end room few most rest is_last is_len is_bytes =
    let whole = put_mid (e - 4) k out v in
    let j : ℕ = 4 + length bytes - (e - 4) in
    let at : 4 + length bytes ≡ length (take (e - 4) out) + j =
    omega (arith, length-take-le (e - 4) out (omega arith)) in
    let more : 4 - j ≡ padded len - length bytes = omega arith in
    let last : e - 4 + 4 ≡ 4 + padded len = omega arith in
    let front : take 4 u ≡ word len = ap (take 4) is_len ∙ take_at (word len) (drop 4 whole) 4 refl in
    let behind : drop 4 u ≡ drop 4 whole = ap (drop 4) is_len ∙ drop_at (word len) (drop 4 whole) 4 refl in
    let left : drop (length bytes) (drop 4 whole) ≡ zeros (padded len - length bytes) ++ drop (4 + padded len) out =
    drop-drop (length bytes) 4 whole
    ∙ ap (λ m. drop m whole) at
    ∙ ap (drop (length (take (e - 4) out) + j)) (over-rest (e - 4) k out v (omega arith) rest)
    ∙ drop-append-add (take (e - 4) out) v j
    ∙ ap (drop j) is_last
    ∙ drop-append-le j (word 0) (drop 4 (drop (e - 4) out)) (omega arith)
    ∙ ap (λ l. l ++ drop 4 (drop (e - 4) out)) (zeros_behind j (omega arith) ∙ ap zeros more)
    ∙ ap (λ l. zeros (padded len - length bytes) ++ l) (drop-drop 4 (e - 4) out ∙ ap (λ m. drop m out) last) in
    ap (λ l. l ++ (y ++ drop (length bytes) (drop 4 u))) front
    ∙ ap (λ l. word len ++ (l ++ drop (length bytes) (drop 4 u))) is_bytes
    ∙ ap (λ l. word len ++ (bytes ++ drop (length bytes) l)) behind
    ∙ ap (λ l. word len ++ (bytes ++ l)) left
    ∙ sym (append_assoc (word len) bytes (zeros (padded len - length bytes) ++ drop (4 + padded len) out))
    ∙ sym (append_assoc (word len ++ bytes) (zeros (padded len - length bytes)) (drop (4 + padded len) out))

-- a text, and two words after it
pub over-named : (out text a b t v w : List ℕ) (n j k : ℕ) → length text ≡ n → length a ≡ 4 → n + 8 ≤ length out
    → t ≡ text ++ drop n out → j ≡ length t - n → v ≡ a ++ drop 4 (drop n t) → k ≡ length (put_mid n j t v) - (n + 4)
    → w ≡ b ++ drop 4 (drop (n + 4) (put_mid n j t v))
    → put_mid (n + 4) k (put_mid n j t v) w ≡ ((text ++ a) ++ b) ++ drop (n + 8) out
over-named out text a b t v w n j k long word_long room is_text first is_a second is_b =
    let size : length t ≡ length out = omega (
      arith,
      ap length is_text,
      length-append text
          (drop n out),
      length-drop n out,
    ) in
    let whole : put_mid n j t v ≡ text ++ (a ++ drop (n + 4) out) =
    over-rest n j t v (omega (arith, size)) first
    ∙ ap (λ l. l ++ v) (ap (take n) is_text ∙ take_at text (drop n out) n long)
    ∙ ap (λ l. text ++ l) (is_a ∙ ap (λ l. a ++ drop 4 l) (ap (drop n) is_text ∙ drop_at text (drop n out) n long)
    ∙ ap (λ l. a ++ l) (drop-drop 4 n out)) in
    let joined : put_mid n j t v ≡ (text ++ a) ++ drop (n + 4) out =
    whole ∙ sym (append_assoc text a (drop (n + 4) out)) in
    let long_front : length (text ++ a) ≡ n + 4 = omega (arith, length-append text a) in
    let long_whole : length (put_mid n j t v) ≡ length out =
    omega (arith, ap length joined, length-append (text ++ a) (drop (n + 4) out), length-drop (n + 4) out) in
    over-rest (n + 4) k (put_mid n j t v) w (omega (arith, long_whole)) second
    ∙ ap (λ l. l ++ w) (ap (take (n + 4)) joined ∙ take_at (text ++ a) (drop (n + 4) out) (n + 4) long_front)
    ∙ ap (λ l. (text ++ a) ++ l) (is_b ∙ ap (λ l. b ++ drop 4 l)
    (ap (drop (n + 4)) joined ∙ drop_at (text ++ a) (drop (n + 4) out) (n + 4) long_front)
    ∙ ap (λ l. b ++ l) (drop-drop 4 (n + 4) out ∙
    (let sum : n + 4 + 4 ≡ n + 8 = omega arith in ap (λ m. drop m out) sum)))
    ∙ sym (append_assoc (text ++ a) b (drop (n + 8) out))
