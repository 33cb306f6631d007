-- What waits in a server's inbox, and what is on its way there, are the requests that were recorded.
use Rattle.std.proofs.Common.{◌≡◌, ℕ, ◌+◌, ◌-◌, ◌*◌, ◌%◌, ◌/◌, ◌<◌, ◌≤◌, false, List, [], ◌∷◌, ◌++◌, length}
use Rattle.std.proofs.Common.{length-append, drop, take, sym, ap, subst, ◌∙◌, arith}
use Rattle.std.specs.List.{All}
use Rattle.std.proofs.lemmas.List.{append_assoc, drop-append-le, drop_all, drop_at, length-drop, take-append-drop}
use Rattle.std.proofs.lemmas.List.{take-append-le, take_all, get_or_append_left}
use Rattle.wl_wire.specs.Word.{header_at, number_at}
use Rattle.wl_sigs.specs.Tables.{Interface, descriptors}
use Rattle.wl_message.specs.Arrived.{Arrived, in_front, with_more, without_first}
use Rattle.wl_message.specs.Cut.{front, Front, More, Bad, Whole, IsMessage}
use Rattle.wl_message.specs.Outgoing.{QueuedMessage, all_bytes, all_tokens}
use Rattle.wl_message.proofs.Cuts.{front_message, whole_stays, bad_stays}
use Rattle.wl_message.proofs.Fronts.{front_stands}
use Rattle.wl_recording.specs.declared.piece.Direction.TheVariants.{ToServer}
use Rattle.wl_recording.specs.Piece.{Piece}
use Rattle.wl_check.specs.Merged.{cut, stream_of, piece_tokens}
use Rattle.wl_check.proofs.LastBytes.{why}
use Rattle.theory_connection.specs.Meant.{Known, Message}
use Rattle.theory_peers.specs.ReadByServer.{IsSpelledBy}
use Rattle.theory_peers.specs.ServerStreams.{IsCutInTwo}
use Rattle.theory_peers.proofs.PassingPieces.{HaveTokens, begun_none, begun_tokens, bytes_passing, have_behind, have_more}
use Rattle.theory_peers.proofs.PassingPieces.{supply, supply_cut, supply_fed, tokens_passing}

-- ---- the bytes of requests

-- bytes that spell a request, and the tokens that it takes
pub record SpellsRequest (limit : ℕ) (tables : List Interface) (m : Message Known) (q : QueuedMessage) : Type 0 where
  pub whole : IsMessage limit q.bytes
  pub spelled : IsSpelledBy tables m (header_at q.bytes) (drop 8 q.bytes) (length q.tokens)
  pub exact : descriptors spelled.signature.kinds ≡ length q.tokens

-- the same for each of these requests
abbrev pub SpellRequests : ℕ → List Interface → List (Message Known) → List QueuedMessage → Type 0
SpellRequests limit tables [] [] = Unit {0}
SpellRequests limit tables (m ∷ ms) (q ∷ qs) = SpellsRequest limit tables m q × SpellRequests limit tables ms qs
SpellRequests limit tables _ _ = ⊥

-- Of what was recorded to the server, it has not read these requests and a part of the next. Their
-- bytes wait in the inbox or are on their way, and the inbox has their tokens in time.
pub record HearsWell (limit : ℕ) (tables : List Interface) (pieces arriving : List Piece) (taken : ℕ)
    (asked : List (Message Known)) (inbox : Arrived) : Type 0 where
  pub same_limit : inbox.limit.bytes ≡ limit
  pub low : All (λ b. b < 256) (stream_of ToServer pieces)
  pub within : taken ≤ piece_tokens ToServer pieces
  pub raw : List QueuedMessage
  pub spelled : SpellRequests limit tables asked raw
  pub sound : (cut limit (stream_of ToServer pieces)).has_bad_size ≡ false
  pub part : List ℕ
  pub rest : drop (cut limit (stream_of ToServer pieces)).place (stream_of ToServer pieces) ≡ part
  pub waits : inbox.bytes ++ bytes_passing arriving ≡ all_bytes raw ++ part
  pub tokens : piece_tokens ToServer pieces + length (all_tokens raw)
      ≡ taken + (length inbox.tokens + tokens_passing arriving)
  pub have : HaveTokens (supply (length inbox.bytes) (length inbox.tokens) arriving) 0 0 raw

-- ---- one piece

pub hears_cut : (limit : ℕ) (tables : List Interface) (pieces arriving : List Piece) (piece first second : Piece)
    (taken : ℕ) (asked : List (Message Known)) (inbox : Arrived) → IsCutInTwo piece first second
    → HearsWell limit tables pieces (piece ∷ arriving) taken asked inbox
    → HearsWell limit tables pieces (first ∷ second ∷ arriving) taken asked inbox
hears_cut limit tables pieces arriving piece first second taken asked inbox c h = record {
  same_limit = h.same_limit;
  low = h.low;
  within = h.within;
  raw = h.raw;
  spelled = h.spelled;
  sound = h.sound;
  part = h.part;
  rest = h.rest;
  waits = ap (λ (l : List ℕ). inbox.bytes ++ l) (sym (append_assoc first.bytes second.bytes (bytes_passing arriving))
      ∙ ap (λ (l : List ℕ). l ++ bytes_passing arriving) (sym c.bytes)) ∙ h.waits;
  tokens = let a = h.tokens in let b = c.tokens in omega (arith, a, b);
  have = have_more (supply (length inbox.bytes) (length inbox.tokens) (piece ∷ arriving))
      (supply (length inbox.bytes) (length inbox.tokens) (first ∷ second ∷ arriving))
      (supply_cut (length inbox.bytes) (length inbox.tokens) piece first second arriving c) 0 0 h.raw h.have;
}

pub hears_fed : (limit : ℕ) (tables : List Interface) (pieces arriving : List Piece) (piece : Piece)
    (taken : ℕ) (asked : List (Message Known)) (inbox : Arrived) (tokens : List ℕ) → length tokens ≡ piece.tokens
    → HearsWell limit tables pieces (piece ∷ arriving) taken asked inbox
    → HearsWell limit tables pieces arriving taken asked (with_more inbox piece.bytes tokens)
hears_fed limit tables pieces arriving piece taken asked inbox tokens count h =
    let bytes = length-append inbox.bytes piece.bytes in
    let all : length (inbox.tokens ++ tokens) ≡ length inbox.tokens + piece.tokens =
    omega (arith, count, length-append inbox.tokens tokens) in
    let now = have_more (supply (length inbox.bytes) (length inbox.tokens) (piece ∷ arriving))
    (supply (length inbox.bytes + length piece.bytes) (length inbox.tokens + piece.tokens) arriving)
    (supply_fed (length inbox.bytes) (length inbox.tokens) piece arriving) 0 0 h.raw h.have in
    record {
      same_limit = h.same_limit;
      low = h.low;
      within = h.within;
      raw = h.raw;
      spelled = h.spelled;
      sound = h.sound;
      part = h.part;
      rest = h.rest;
      waits = append_assoc inbox.bytes piece.bytes (bytes_passing arriving) ∙ h.waits;
      tokens = let a = h.tokens in omega (arith, a, all);
      have = subst (λ (n : ℕ). HaveTokens (supply n (length (inbox.tokens ++ tokens)) arriving) 0 0 h.raw) (sym bytes)
          (subst (λ (n : ℕ). HaveTokens (supply (length inbox.bytes + length piece.bytes) n arriving) 0 0 h.raw)
          (sym all) now);
    }

-- ---- what is in front

-- bytes that begin with a whole message, and what follows it
pub record BeginsWith (x left m more : List ℕ) : Type 0 where
  pub others : List ℕ
  pub is : x ≡ m ++ others
  pub behind : others ++ left ≡ more

pub begins_with : (x left m more : List ℕ) → x ++ left ≡ m ++ more → length m ≤ length x → BeginsWith x left m more
begins_with x left m more e h =
    let n = length m in
    let front : take n x ≡ m = sym (take-append-le n x left h) ∙ ap (take n) e ∙ take-append-le n m more (omega arith)
    ∙ take_all n m (omega arith) in
    record {
      others = drop n x;
      is = sym (take-append-drop n x) ∙ ap (λ (l : List ℕ). l ++ drop n x) front;
      behind = sym (drop-append-le n x left h) ∙ ap (drop n) e ∙ drop-append-le n m more (omega arith)
          ∙ ap (λ (l : List ℕ). l ++ more) (drop_all n m (omega arith));
    }

number_front : (xs ys : List ℕ) → 4 ≤ length xs → number_at (xs ++ ys) ≡ number_at xs
number_front xs ys h =
    let a = get_or_append_left xs ys 0 0 (omega arith) in
    let b = get_or_append_left xs ys 0 1 (omega arith) in
    let c = get_or_append_left xs ys 0 2 (omega arith) in
    let d = get_or_append_left xs ys 0 3 (omega arith) in
    λ i. a i % 256 + b i % 256 * 256 + c i % 256 * 65536 + d i % 256 * 16777216

-- the header is in the first eight bytes
pub header_front : (xs ys : List ℕ) → 8 ≤ length xs → header_at (xs ++ ys) ≡ header_at xs
header_front xs ys h =
    let rest : drop 4 (xs ++ ys) ≡ drop 4 xs ++ ys = drop-append-le 4 xs ys (omega arith) in
    let long : 4 ≤ length (drop 4 xs) = omega (arith, length-drop 4 xs) in
    let word = number_front xs ys (omega arith) in
    let second = ap number_at rest ∙ number_front (drop 4 xs) ys long in
    λ i. record { object = word i; size = second i / 65536; opcode = second i % 65536 }

module _ (limit : ℕ) (tables : List Interface) (pieces arriving : List Piece) (taken : ℕ) (inbox : Arrived) where
  abbrev Hears : List (Message Known) → Type 0
  Hears asked = HearsWell limit tables pieces arriving taken asked inbox

  pub part_unfinished : (asked : List (Message Known)) (h : Hears asked) → front limit h.part ≡ More
  part_unfinished asked h =
      let s = stream_of ToServer pieces in
      ap (front limit) (sym h.rest) ∙ why limit (length s) s 0 (omega arith) (omega arith) h.sound

  front_is : (asked : List (Message Known)) (h : Hears asked) (f : Front) → in_front inbox ≡ f
      → front limit inbox.bytes ≡ f
  front_is asked h f is = ap (λ (l : ℕ). front l inbox.bytes) (sym h.same_limit) ∙ is

  -- the first request waits, and what follows when it is read
  pub record HearsFirst (m : Message Known) (asked : List (Message Known)) (n : ℕ) : Type 0 where
    pub first : QueuedMessage
    pub spells : SpellsRequest limit tables m first
    pub others : List ℕ
    pub bytes : inbox.bytes ≡ first.bytes ++ others
    pub size : n ≡ length first.bytes
    pub enough : length first.tokens ≤ length inbox.tokens
    pub stays : HearsWell limit tables pieces arriving taken asked (without_first inbox n (length first.tokens))

  first_by : (m : Message Known) (asked : List (Message Known)) (n : ℕ) (h : Hears (m ∷ asked))
      → front limit inbox.bytes ≡ Whole n → (raw : List QueuedMessage) → SpellRequests limit tables (m ∷ asked) raw
      → inbox.bytes ++ bytes_passing arriving ≡ all_bytes raw ++ h.part
      → piece_tokens ToServer pieces + length (all_tokens raw) ≡ taken + (length inbox.tokens + tokens_passing arriving)
      → HaveTokens (supply (length inbox.bytes) (length inbox.tokens) arriving) 0 0 raw → HearsFirst m asked n
  first_by m asked n h found [] s w t v = absurd s
  first_by m asked n h found (q ∷ qs) s w t v =
      let spells = s.0 in
      let more = all_bytes qs ++ h.part in
      let there : front limit (inbox.bytes ++ bytes_passing arriving) ≡ Whole n =
      whole_stays limit inbox.bytes (bytes_passing arriving) n found in
      let all : inbox.bytes ++ bytes_passing arriving ≡ q.bytes ++ more =
      w ∙ append_assoc q.bytes (all_bytes qs) h.part in
      let own : front limit (q.bytes ++ more) ≡ Whole (length q.bytes) =
      front_message limit q.bytes more spells.whole in
      let size : n ≡ length q.bytes = cc (there, own, ap (front limit) all) in
      let long = (front_stands limit inbox.bytes n found).there in
      let a = begins_with inbox.bytes (bytes_passing arriving) q.bytes more all (omega (arith, size, long)) in
      let none : (0 + length q.bytes) - length inbox.bytes ≡ 0 = omega (arith, size, long) in
      let nothing = ap (λ (k : ℕ). begun_tokens k arriving) none ∙ begun_none arriving in
      let enough : length q.tokens ≤ length inbox.tokens = (let e = v.0 in omega (arith, e, nothing)) in
      let k = length q.tokens in
      let left : drop n inbox.bytes ≡ a.others =
      ap (drop n) a.is ∙ drop_at q.bytes a.others n (sym size) in
      let less : (i : ℕ) → supply (length inbox.bytes) (length inbox.tokens) arriving (length q.bytes + i)
      ≤ k + supply (length (drop n inbox.bytes)) (length (drop k inbox.tokens)) arriving i =
      λ i. (let d = length-drop n inbox.bytes in
      let e = length-drop k inbox.tokens in
      let same : (length q.bytes + i) - length inbox.bytes ≡ i - length (drop n inbox.bytes) =
      omega (arith, d, size, long) in
      let b = ap (λ (j : ℕ). begun_tokens j arriving) same in
      omega (arith, b, e, enough)) in
      record {
        first = q;
        spells = spells;
        others = a.others;
        bytes = a.is;
        size = size;
        enough = enough;
        stays = record {
          same_limit = h.same_limit;
          low = h.low;
          within = h.within;
          raw = qs;
          spelled = s.1;
          sound = h.sound;
          part = h.part;
          rest = h.rest;
          waits = ap (λ (l : List ℕ). l ++ bytes_passing arriving) left ∙ a.behind;
          tokens =
              let d = length-drop k inbox.tokens in
              let l = length-append q.tokens (all_tokens qs) in
              omega (arith, t, d, l, enough);
          have = have_behind (supply (length inbox.bytes) (length inbox.tokens) arriving)
              (supply (length (drop n inbox.bytes)) (length (drop k inbox.tokens)) arriving) (length q.bytes) k less
              0 (0 + length q.bytes) 0 (0 + k) (omega arith) (omega arith) qs v.1;
        };
      }

  pub hears_first : (m : Message Known) (asked : List (Message Known)) (n : ℕ) → Hears (m ∷ asked)
      → in_front inbox ≡ Whole n → HearsFirst m asked n
  hears_first m asked n h is =
      first_by m asked n h (front_is (m ∷ asked) h (Whole n) is) h.raw h.spelled h.waits h.tokens h.have

  -- without a recorded request none is in front
  none_by : (n : ℕ) (h : Hears []) → front limit inbox.bytes ≡ Whole n → (raw : List QueuedMessage)
      → SpellRequests limit tables [] raw → inbox.bytes ++ bytes_passing arriving ≡ all_bytes raw ++ h.part → ⊥
  none_by n h found (q ∷ qs) s w = s
  none_by n h found [] s w =
      let there : front limit (inbox.bytes ++ bytes_passing arriving) ≡ Whole n =
      whole_stays limit inbox.bytes (bytes_passing arriving) n found in
      let more = ap (front limit) w ∙ part_unfinished [] h in
      cc (there, more)

  pub hears_none : (n : ℕ) → Hears [] → in_front inbox ≡ Whole n → ⊥
  hears_none n h is = none_by n h (front_is [] h (Whole n) is) h.raw h.spelled h.waits

  -- no bad size is in front
  bad_by : (n : ℕ) (asked : List (Message Known)) (h : Hears asked) → front limit inbox.bytes ≡ Bad n
      → (raw : List QueuedMessage) → SpellRequests limit tables asked raw
      → inbox.bytes ++ bytes_passing arriving ≡ all_bytes raw ++ h.part → ⊥
  bad_by n [] h found (q ∷ qs) s w = s
  bad_by n (m ∷ asked) h found [] s w = s
  bad_by n [] h found [] s w =
      let there : front limit (inbox.bytes ++ bytes_passing arriving) ≡ Bad n =
      bad_stays limit inbox.bytes (bytes_passing arriving) n found in
      let more = ap (front limit) w ∙ part_unfinished [] h in
      cc (there, more)
  bad_by n (m ∷ asked) h found (q ∷ qs) s w =
      let more = all_bytes qs ++ h.part in
      let there : front limit (inbox.bytes ++ bytes_passing arriving) ≡ Bad n =
      bad_stays limit inbox.bytes (bytes_passing arriving) n found in
      let own : front limit (q.bytes ++ more) ≡ Whole (length q.bytes) =
      front_message limit q.bytes more s.0.whole in
      let all = ap (front limit) (w ∙ append_assoc q.bytes (all_bytes qs) h.part) in
      cc (there, own, all)

  pub hears_no_bad : (n : ℕ) (asked : List (Message Known)) → Hears asked → in_front inbox ≡ Bad n → ⊥
  hears_no_bad n asked h is = bad_by n asked h (front_is asked h (Bad n) is) h.raw h.spelled h.waits
