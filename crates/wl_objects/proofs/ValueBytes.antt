-- The bytes of a value follow its first word.
use Rattle.std.proofs.Common.{◌≡◌, ℕ, ◌+◌, List, [], ◌∷◌, ◌++◌, length, take, drop, sym, subst}
use Rattle.std.proofs.Common.{arith, append_assoc, drop-drop}
use Rattle.std.proofs.Math.Seq.{take-append_seam}
use Rattle.std.proofs.lemmas.List.{take-append-drop}
use Rattle.wl_wire.specs.Argument.{Argument}
use Rattle.wl_wire.specs.declared.kind.Kind.{Kind}
use Rattle.wl_wire.specs.Word.{word}
use Rattle.wl_wire.specs.Spelling.{Spells, SpellsText, is_int, is_uint, is_fixed, is_null, is_text}
use Rattle.wl_wire.specs.Spelling.{is_object, is_new, is_new_by_server, is_named, is_array}
use Rattle.wl_wire.specs.Spelling.{is_descriptor}
use Rattle.wl_objects.specs.Parsed.{body_part, TextLiesBehind, BytesFollowLength}

-- bytes that begin with the text
behind : (text rest padding more : List ℕ) → rest ≡ (text ++ 0 ∷ []) ++ padding
    → text ≡ take (length text) (rest ++ more)
behind text rest padding more e = rw (e, append_assoc, append_assoc)
    (sym (take-append_seam text ((0 ∷ []) ++ (padding ++ more))))

text-lies : (text bytes more : List ℕ) → SpellsText text bytes → BytesFollowLength (bytes ++ more) text
text-lies text bytes more s = record {
  same = rw s.whole (behind text s.rest s.padded_rest.padding more s.padded_rest.whole);
  fits = let l = s.text_fits.len in omega (arith, l);
}

array-lies : (array rest padding more : List ℕ) → rest ≡ array ++ padding → array ≡ take (length array) (rest ++ more)
array-lies array rest padding more e = rw (e, append_assoc) (sym (take-append_seam array (padding ++ more)))

spelled-lies : {k : Kind} {v : Argument} {bytes : List ℕ} (more : List ℕ) → Spells k v bytes
    → TextLiesBehind (bytes ++ more) v
spelled-lies more (is_int f e) = tt
spelled-lies more (is_uint f e) = tt
spelled-lies more (is_fixed f e) = tt
spelled-lies more (is_null f e) = tt
spelled-lies more (is_text s) = text-lies _ _ more s
spelled-lies more (is_object f n e) = tt
spelled-lies more (is_new f e) = tt
spelled-lies more (is_new_by_server f e) = tt
spelled-lies more (is_named {iface} {front} {bytes} {version} {id} s v i e) =
    rw (e, append_assoc, append_assoc) (text-lies iface front (word version ++ (word id ++ more)) s)
spelled-lies more (is_array {array} {rest} {bytes} f p e) =
    record { same = rw e (array-lies array rest p.padding more p.whole); fits = f }
spelled-lies more (is_descriptor e) = tt

-- the bytes of a value that is read are there
pub read-lies : (k : Kind) (v : Argument) (n : ℕ) (bytes : List ℕ) → Spells k v (take n bytes) → TextLiesBehind bytes v
read-lies k v n bytes s =
    subst (λ (b : List ℕ). TextLiesBehind b v) (take-append-drop n bytes) (spelled-lies (drop n bytes) s)

-- the bytes after a first word are the part of the body that begins there
pub part-lies : (body text : List ℕ) (start : ℕ) → BytesFollowLength (drop start body) text
    → body_part body (start + 4) (length text) ≡ text
part-lies body text start e = sym (subst (λ (b : List ℕ). text ≡ take (length text) b) (drop-drop 4 start body) e.same)
