-- What one carry adds to a recording: no piece; one piece; or two, the first of them without bytes.
use Rattle.std.proofs.Common.{◌≡◌, ℕ, ◌+◌, ◌-◌, ◌<◌, Bool, true, false, cond, List, [], ◌∷◌, ◌++◌}
use Rattle.std.proofs.Common.{length, drop, map, refl, sym, ap, subst, ◌∙◌, arith, append-nil}
use Rattle.std.proofs.Common.{append_assoc, ltb, ◌&&◌, ◌==◌}
use Rattle.std.proofs.lemmas.Bool.Decides.{nat_tests}
use Rattle.wl_sigs.specs.Tables.{Interface}
use Rattle.wl_recording.specs.declared.piece.Direction.{Direction}
use Rattle.wl_recording.specs.Piece.{Piece, passed}
use Rattle.wl_check.specs.declared.frames.FramedMessage.{FramedMessage}
use Rattle.wl_check.specs.Merged.{cut, same_direction, stream_of, piece_tokens, framed}
use Rattle.wl_check.specs.Session.{Judged, judged_after, messages, session_of}
use Rattle.wl_check.proofs.MessagesOfStream.{drop_whole}
use Rattle.wl_check.proofs.MergedPiece.{same_is}
use Rattle.wl_check.proofs.LongerRecording.{stream_last, tokens_last, messages_more}

abbrev pub piece_of : Direction → List ℕ → ℕ → Piece
piece_of d bytes tokens = record { direction = d; bytes = bytes; tokens = tokens }

-- the messages that more bytes complete
abbrev pub new_frames : (limit : ℕ) → Direction → List ℕ → List ℕ → ℕ → List FramedMessage
new_frames limit d stream bytes tokens = map (framed d tokens)
    (drop (length (cut limit stream).spans) (cut limit (stream ++ bytes)).spans)

-- More pieces bring these bytes and this number of tokens in a direction. The messages that they
-- complete follow the others.
pub record Brings (limit : ℕ) (tables : List Interface) (d : Direction) (before after : List Piece) (bytes : List ℕ)
    (tokens : ℕ) : Type 0 where
  pub own : stream_of d after ≡ stream_of d before ++ bytes
  pub other : (x : Direction) → same_direction d x ≡ false → stream_of x after ≡ stream_of x before
  pub own_count : piece_tokens d after ≡ piece_tokens d before + tokens
  pub other_count : (x : Direction) → same_direction d x ≡ false → piece_tokens x after ≡ piece_tokens x before
  pub judged : messages tables (session_of limit after)
      ≡ judged_after limit tables (λ x. stream_of x after) (messages tables (session_of limit before))
      (new_frames limit d (stream_of d before) bytes (piece_tokens d before + tokens))

-- without bytes, no message is completed
quiet : (limit : ℕ) (d : Direction) (stream : List ℕ) (tokens : ℕ) → new_frames limit d stream [] tokens ≡ []
quiet limit d stream tokens =
    ap (λ (s : List ℕ). map (framed d tokens) (drop (length (cut limit stream).spans) (cut limit s).spans))
    (append-nil stream)
    ∙ ap (map (framed d tokens)) (drop_whole (cut limit stream).spans)

after_quiet : (limit : ℕ) (tables : List Interface) (streams : Direction → List ℕ) (e : List Judged) (d : Direction)
    (stream : List ℕ) (tokens : ℕ) → judged_after limit tables streams e (new_frames limit d stream [] tokens) ≡ e
unfolding judged_after
after_quiet limit tables streams e d stream tokens =
    ap (judged_after limit tables streams e) (quiet limit d stream tokens)

brings_none : (limit : ℕ) (tables : List Interface) (d : Direction) (ps : List Piece) → Brings limit tables d ps ps [] 0
brings_none limit tables d ps = record {
  own = sym (append-nil (stream_of d ps));
  other = λ x no. refl;
  own_count = omega arith;
  other_count = λ x no. refl;
  judged = sym (after_quiet limit tables (λ x. stream_of x ps) (messages tables (session_of limit ps)) d
      (stream_of d ps) (piece_tokens d ps + 0));
}

brings_one : (limit : ℕ) (tables : List Interface) (d : Direction) (ps : List Piece) (bytes : List ℕ) (tokens : ℕ)
    → Brings limit tables d ps (ps ++ piece_of d bytes tokens ∷ []) bytes tokens
brings_one limit tables d ps bytes tokens =
    let p = piece_of d bytes tokens in
    let same = same_is d in
    record {
      own = stream_last d ps p ∙ ap (λ (b : Bool). stream_of d ps ++ cond b bytes []) same;
      other = λ x no. stream_last x ps p ∙ ap (λ (b : Bool). stream_of x ps ++ cond b bytes []) no
          ∙ append-nil (stream_of x ps);
      own_count = tokens_last d ps p ∙ ap (λ (b : Bool). piece_tokens d ps + cond b tokens 0) same;
      other_count = λ x no. tokens_last x ps p ∙ ap (λ (b : Bool). piece_tokens x ps + cond b tokens 0) no
          ∙ omega arith;
      judged = messages_more limit tables ps p;
    }

-- a piece without bytes, and then another
brings_then : (limit : ℕ) (tables : List Interface) (d : Direction) (ps qs rs : List Piece) (bytes : List ℕ) (a b n : ℕ)
    → a + b ≡ n → Brings limit tables d ps qs [] a → Brings limit tables d qs rs bytes b
    → Brings limit tables d ps rs bytes n
brings_then limit tables d ps qs rs bytes a b n sum f g =
    let stream : stream_of d qs ≡ stream_of d ps = f.own ∙ append-nil (stream_of d ps) in
    let count : piece_tokens d qs + b ≡ piece_tokens d ps + n = (let c = f.own_count in omega (arith, c, sum)) in
    let first : messages tables (session_of limit qs) ≡ messages tables (session_of limit ps) =
    f.judged ∙ after_quiet limit tables (λ x. stream_of x qs) (messages tables (session_of limit ps)) d (stream_of d ps)
    (piece_tokens d ps + a) in
    record {
      own = g.own ∙ ap (λ (s : List ℕ). s ++ bytes) stream;
      other = λ x no. g.other x no ∙ f.other x no;
      own_count = g.own_count ∙ count;
      other_count = λ x no. g.other_count x no ∙ f.other_count x no;
      judged = g.judged ∙ (λ i. judged_after limit tables (λ x. stream_of x rs) (first i)
          (new_frames limit d (stream i) bytes (count i)));
    }

brings_rest : (limit : ℕ) (tables : List Interface) (d : Direction) (ps : List Piece) (bytes : List ℕ) (tokens : ℕ)
    (b : Bool) → length bytes == 0 && tokens == 0 ≡ b
    → Brings limit tables d ps (ps ++ cond b [] (piece_of d bytes tokens ∷ [])) bytes tokens
brings_rest limit tables d ps bytes tokens false e = brings_one limit tables d ps bytes tokens
brings_rest limit tables d ps [] tokens true e =
    let none : tokens ≡ 0 = grind (arith, nat_tests) in
    subst (λ (n : ℕ). Brings limit tables d ps (ps ++ []) [] n) (sym none)
    (subst (λ (qs : List Piece). Brings limit tables d ps qs [] 0) (sym (append-nil ps))
    (brings_none limit tables d ps))
brings_rest limit tables d ps (x ∷ xs) tokens true e = let none : length (x ∷ xs) ≡ 0 = grind (arith, nat_tests)
    in absurd (omega (arith, none))

brings_many : (limit : ℕ) (tables : List Interface) (d : Direction) (ps : List Piece) (bytes : List ℕ) (tokens : ℕ)
    (b : Bool) → ltb 65535 tokens ≡ b → Brings limit tables d ps (ps ++ passed d bytes tokens) bytes tokens
brings_many limit tables d ps bytes tokens false e =
    subst (λ (b : Bool). Brings limit tables d ps
    (ps ++ cond b (piece_of d [] 65535 ∷ piece_of d bytes (tokens - 65535) ∷ [])
    (cond (length bytes == 0 && tokens == 0) [] (piece_of d bytes tokens ∷ []))) bytes tokens) (sym e)
    (brings_rest limit tables d ps bytes tokens (length bytes == 0 && tokens == 0) refl)
brings_many limit tables d ps bytes tokens true e =
    let many : 65535 < tokens = grind (arith, nat_tests) in
    let first = piece_of d [] 65535 in
    let second = piece_of d bytes (tokens - 65535) in
    let both = brings_then limit tables d ps (ps ++ first ∷ []) ((ps ++ first ∷ []) ++ second ∷ []) bytes 65535
    (tokens - 65535) tokens (omega (arith, many))
    (brings_one limit tables d ps [] 65535) (brings_one limit tables d (ps ++ first ∷ []) bytes (tokens - 65535)) in
    subst (λ (b : Bool). Brings limit tables d ps
    (ps ++ cond b (first ∷ second ∷ []) (cond (length bytes == 0 && tokens == 0) [] (piece_of d bytes tokens ∷ [])))
    bytes tokens) (sym e)
    (subst (λ (qs : List Piece). Brings limit tables d ps qs bytes tokens)
    (append_assoc ps (first ∷ []) (second ∷ [])) both)

pub carry_brings : (limit : ℕ) (tables : List Interface) (d : Direction) (ps : List Piece) (bytes : List ℕ) (tokens : ℕ)
    → Brings limit tables d ps (ps ++ passed d bytes tokens) bytes tokens
carry_brings limit tables d ps bytes tokens = brings_many limit tables d ps bytes tokens (ltb 65535 tokens) refl
