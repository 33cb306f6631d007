-- A run of a server by bytes: the calls that it makes, or the rule that its client broke.
use Rattle.std.proofs.Common.{◌≡◌, ◌⊎◌, inl, inr, ℕ, zero, suc, ◌+◌, ◌-◌, ◌<◌, ◌≤◌, Bool, false, cond, List, []}
use Rattle.std.proofs.Common.{◌∷◌, ◌++◌, drop, length, length-append, map, slice_get, take, refl, sym, ap, subst, ◌∙◌}
use Rattle.std.proofs.Common.{append-nil, arith}
use Rattle.std.specs.List.{All}
use Rattle.std.specs.declared.option.Option.TheVariants.{Some}
use Rattle.std.specs.declared.result.Result.TheVariants.{Err}
use Rattle.std.proofs.lemmas.Bool.{cases_lt}
use Rattle.std.proofs.lemmas.List.{append_assoc, drop-append-le, take-append-drop, take-append-le}
use Rattle.std.proofs.lemmas.List.Elements.{All-append}
use Rattle.wl_sigs.specs.Tables.{Interface}
use Rattle.wl_sigs.specs.Valid.{Valid}
use Rattle.wl_message.specs.Arrived.{Arrived}
use Rattle.wl_message.specs.Cut.{front, More, Whole, IsMessage, greatest_limit}
use Rattle.wl_message.specs.Outgoing.{Outgoing, QueuedMessage, all_bytes}
use Rattle.wl_message.proofs.Cuts.{front_message, message_there}
use Rattle.wl_object_map.specs.View.{max_births}
use Rattle.wl_objects.specs.declared.error.Fault.{Fault}
use Rattle.wl_recording.specs.declared.piece.Direction.{Direction}
use Rattle.wl_recording.specs.declared.piece.Direction.TheVariants.{ToServer, ToClient}
use Rattle.wl_recording.specs.Piece.{Piece}
use Rattle.wl_check.specs.Merged.{Cutting, completed, cut, cutting, framed, merged, piece_tokens, same_direction, stream_of}
use Rattle.wl_check.specs.Session.{Judged, judged_after, messages, session_of}
use Rattle.wl_check.specs.declared.frames.FramedMessage.{FramedMessage}
use Rattle.wl_check.proofs.JudgedByPlaces.{after_front, get_front, length_messages}
use Rattle.wl_check.proofs.LongerRecording.{merged_with, messages_more, stream_last, tokens_last}
use Rattle.wl_check.proofs.MergedPiece.{own, own_tokens}
use Rattle.wl_check.proofs.MessagesOfStream.{fed_good, new_spans, place_within}
use Rattle.wl_server.specs.State.{State}
use Rattle.theory_connection.specs.Meant.{Known, Message}
use Rattle.theory_connection.specs.World.{Each}
use Rattle.theory_connection.proofs.WholeInFlight.{each_front, each_more, each_rest}
use Rattle.theory_recording.specs.Follows.{AllGoOn, knowledge}
use Rattle.theory_recording.specs.Linked.{judgements}
use Rattle.theory_peers.specs.ServerCalls.{ServerCalls}
use Rattle.theory_peers.specs.ServerStreams.{from_client}
use Rattle.theory_peers.proofs.HeardRequests.{HearsWell, part_unfinished}
use Rattle.theory_peers.proofs.PassingPieces.{HaveTokens, begun_last, bytes_passing, bytes_passing_more, have_more}
use Rattle.theory_peers.proofs.PassingPieces.{supply, supply_fed, supply_more, tokens_passing, tokens_passing_more}
use Rattle.theory_peers.proofs.RecordedEvents.{CallsLeave, KeepsEach, RecordedTo, calls_keep_each, record_all}
use Rattle.theory_peers.proofs.RecordedRequests.{AcceptedTo, AcceptsOrBreaks, accept_all}
use Rattle.theory_peers.proofs.ToldMessages.{TellsWell}

-- The first recorded message that breaks a rule is a request.
pub record ClientBroke (limit : ℕ) (tables : List Interface) (pieces : List Piece) : Type 0 where
  pub before : List Judged
  pub fault : Fault
  pub after : List Judged
  pub is : judgements limit tables pieces ≡ before ++ Err fault ∷ after
  pub passed : AllGoOn before
  pub frame : FramedMessage
  pub there : slice_get (merged limit pieces) (length before) ≡ Some frame
  pub direction : frame.direction ≡ ToServer

-- The checker accepts all that is recorded; the server's calls, what they wrote, and its inbox are
-- as the recording says.
pub record CallsHear (limit : ℕ) (tables : List Interface) (pieces arriving : List Piece)
    (written : List QueuedMessage) (state : State) : Type 0 where
  pub asked : List (Message Known)
  pub calls : ServerCalls limit tables (judgements limit tables pieces) asked written state
  pub hears : HearsWell limit tables pieces arriving ((knowledge tables (judgements limit tables pieces)).taken ToServer)
      asked state.core.inbox

-- The checker accepts all that is recorded, and the server's calls, inbox and outbox are as the
-- recording says.
pub record PlaysWell (limit : ℕ) (tables : List Interface) (pieces arriving leaving : List Piece) (state : State) : Type 0
  where
    pub asked : List (Message Known)
    pub written : List QueuedMessage
    pub calls : ServerCalls limit tables (judgements limit tables pieces) asked written state
    pub hears : HearsWell limit tables pieces arriving ((knowledge tables (judgements limit tables pieces)).taken ToServer)
        asked state.core.inbox
    pub tells : TellsWell limit pieces leaving ((knowledge tables (judgements limit tables pieces)).taken ToClient)
        written state.core.outbox

-- ---- a broken recording stays broken

pub broke_more : (limit : ℕ) (tables : List Interface) (pieces : List Piece) (piece : Piece)
    → ClientBroke limit tables pieces → ClientBroke limit tables (pieces ++ piece ∷ [])
broke_more limit tables pieces piece b =
    let rest = after_front limit tables (λ d. stream_of d (pieces ++ piece ∷ [])) (judgements limit tables pieces)
    (completed limit pieces piece) in
    let count = length_messages tables (session_of limit pieces) in
    let own = ap length b.is in
    let within : length b.before < length (merged limit pieces) =
    omega (arith, count, own, length-append b.before (Err b.fault ∷ b.after)) in
    record {
      before = b.before;
      fault = b.fault;
      after = b.after ++ rest.0;
      is = messages_more limit tables pieces piece ∙ rest.1 ∙ ap (λ (l : List Judged). l ++ rest.0) b.is
          ∙ append_assoc b.before (Err b.fault ∷ b.after) rest.0;
      passed = b.passed;
      frame = b.frame;
      there = ap (λ (l : List FramedMessage). slice_get l (length b.before)) (merged_with limit pieces piece)
          ∙ get_front (merged limit pieces) (completed limit pieces piece) (length b.before) within ∙ b.there;
      direction = b.direction;
    }

get_behind : {A : Type 0} (xs ys : List A) (i k : ℕ) → k ≡ length xs + i → slice_get (xs ++ ys) k ≡ slice_get ys i
get_behind [] ys i k is = let same : k ≡ i = omega (arith, is) in ap (slice_get ys) same
get_behind (x ∷ xs) ys i zero is = absurd (omega (arith, is))
get_behind (x ∷ xs) ys i (suc k) is = get_behind xs ys i k (omega (arith, is))

-- ---- a piece from the client

module _ (limit : ℕ) (tables : List Interface) (pieces : List Piece) (piece : Piece) where
  abbrev after : List Piece
  after = pieces ++ piece ∷ []

  -- the streams and the tokens with it
  stream_now : (d : Direction) → piece.direction ≡ d → stream_of d after ≡ stream_of d pieces ++ piece.bytes
  stream_now d is = stream_last d pieces piece ∙ ap (λ (l : List ℕ). stream_of d pieces ++ l) (bytes_own d is)
    where
      bytes_own : (d : Direction) → piece.direction ≡ d → own d piece ≡ piece.bytes
      bytes_own ToServer is = rw is refl
      bytes_own ToClient is = rw is refl

  count_now : (d : Direction) → piece.direction ≡ d → piece_tokens d after ≡ piece_tokens d pieces + piece.tokens
  count_now d is = tokens_last d pieces piece ∙ ap (λ (n : ℕ). piece_tokens d pieces + n) (tokens_own d is)
    where
      tokens_own : (d : Direction) → piece.direction ≡ d → own_tokens d piece ≡ piece.tokens
      tokens_own ToServer is = rw is refl
      tokens_own ToClient is = rw is refl

  stream_other : (d : Direction) → same_direction piece.direction d ≡ false → stream_of d after ≡ stream_of d pieces
  stream_other d apart = stream_last d pieces piece
      ∙ ap (λ (b : Bool). stream_of d pieces ++ cond b piece.bytes []) apart ∙ append-nil (stream_of d pieces)

  count_other : (d : Direction) → same_direction piece.direction d ≡ false
      → piece_tokens d after ≡ piece_tokens d pieces
  count_other d apart = tokens_last d pieces piece
      ∙ ap (λ (b : Bool). piece_tokens d pieces + cond b piece.tokens 0) apart ∙ omega arith

  -- the messages that it completes are those from where the cutting of its stream stopped
  abbrev cut_on : Direction → Cutting
  cut_on d = cutting limit (length (stream_of d after)) (stream_of d after) (cut limit (stream_of d pieces)).place

  completed_on : (d : Direction) → piece.direction ≡ d → (cut limit (stream_of d pieces)).has_bad_size ≡ false
      → completed limit pieces piece ≡ map (framed d (piece_tokens d after)) (cut_on d).spans
  completed_on d is sound =
      let s = stream_of d pieces in
      let stream = stream_now d is in
      let spans : drop (length (cut limit s).spans) (cut limit (s ++ piece.bytes)).spans ≡ (cut_on d).spans =
      new_spans limit s piece.bytes
      ∙ rw sound (ap (λ (l : List ℕ). (cutting limit (length l) l (cut limit s).place).spans) (sym stream)) in
      (λ i. map (framed (is i) (piece_tokens (is i) pieces + piece.tokens))
      (drop (length (cut limit (stream_of (is i) pieces)).spans)
      (cut limit (stream_of (is i) pieces ++ piece.bytes)).spans))
      ∙ (λ i. map (framed d (sym (count_now d is) i)) (spans i))

  -- the cutting of the stream with it
  cut_now : (d : Direction) → piece.direction ≡ d → (cut limit (stream_of d pieces)).has_bad_size ≡ false
      → cut limit (stream_of d after) ≡ record {
        spans = (cut limit (stream_of d pieces)).spans ++ (cut_on d).spans;
        place = (cut_on d).place;
        has_bad_size = (cut_on d).has_bad_size;
      }
  cut_now d is sound =
      let s = stream_of d pieces in
      let stream = stream_now d is in
      ap (cut limit) stream ∙ fed_good limit s piece.bytes sound
      ∙ ap (λ (l : List ℕ). (let y = cutting limit (length l) l (cut limit s).place
      in record { spans = (cut limit s).spans ++ y.spans; place = y.place; has_bad_size = y.has_bad_size })) (sym stream)

  -- the stream from that place on
  at_now : (d : Direction) → piece.direction ≡ d → (part : List ℕ)
      → drop (cut limit (stream_of d pieces)).place (stream_of d pieces) ≡ part
      → drop (cut limit (stream_of d pieces)).place (stream_of d after) ≡ part ++ piece.bytes
  at_now d is part rest =
      let s = stream_of d pieces in
      let place = (cut limit s).place in
      ap (drop place) (stream_now d is)
      ∙ drop-append-le place s piece.bytes (place_within limit (length s) s 0 (omega arith))
      ∙ ap (λ (l : List ℕ). l ++ piece.bytes) rest

  inside_now : (d : Direction) → piece.direction ≡ d
      → (cut limit (stream_of d pieces)).place ≤ length (stream_of d after)
  inside_now d is =
      let s = stream_of d pieces in
      let a = place_within limit (length s) s 0 (omega arith) in
      let l = ap length (stream_now d is) in
      omega (arith, a, l, length-append s piece.bytes)

  -- ---- what stays in the other direction

  pub hears_still : (arriving : List Piece) (asked : List (Message Known)) (inbox : Arrived) (taken taken' : ℕ)
      → same_direction piece.direction ToServer ≡ false → taken' ≡ taken
      → HearsWell limit tables pieces arriving taken asked inbox → HearsWell limit tables after arriving taken' asked inbox
  hears_still arriving asked inbox taken taken' apart same h =
      let stream = stream_other ToServer apart in
      let count = count_other ToServer apart in
      record {
        same_limit = h.same_limit;
        low = subst (All (λ b. b < 256)) (sym stream) h.low;
        within = (let a = h.within in omega (arith, a, count, same));
        raw = h.raw;
        spelled = h.spelled;
        sound = ap (λ (s : List ℕ). (cut limit s).has_bad_size) stream ∙ h.sound;
        part = h.part;
        rest = ap (λ (s : List ℕ). drop (cut limit s).place s) stream ∙ h.rest;
        waits = h.waits;
        tokens = (let a = h.tokens in omega (arith, a, count, same));
        have = h.have;
      }

  pub tells_still : (leaving : List Piece) (written : List QueuedMessage) (outbox : Outgoing) (taken taken' : ℕ)
      → same_direction piece.direction ToClient ≡ false → taken' ≡ taken
      → TellsWell limit pieces leaving taken written outbox → TellsWell limit after leaving taken' written outbox
  tells_still leaving written outbox taken taken' apart same h =
      let stream = stream_other ToClient apart in
      let count = count_other ToClient apart in
      record {
        to_client = h.to_client;
        begun = h.begun;
        all = h.all;
        whole = h.whole;
        sound = ap (λ (s : List ℕ). (cut limit s).has_bad_size) stream ∙ h.sound;
        part = h.part;
        rest = ap (λ (s : List ℕ). drop (cut limit s).place s) stream ∙ h.rest;
        bytes = h.bytes;
        have = h.have;
        have_is = (let a = h.have_is in omega (arith, a, count, same));
        tokens = (let a = h.tokens in omega (arith, a, count, same));
        in_time = h.in_time;
      }

  -- the judgements with it
  judged_on : (d : Direction) → piece.direction ≡ d → (cut limit (stream_of d pieces)).has_bad_size ≡ false
      → judgements limit tables after
      ≡ judged_after limit tables (λ x. stream_of x after) (judgements limit tables pieces)
      (map (framed d (piece_tokens d after)) (cut_on d).spans)
  judged_on d is sound = messages_more limit tables pieces piece
      ∙ ap (judged_after limit tables (λ x. stream_of x after) (judgements limit tables pieces)) (completed_on d is sound)

-- a part of a message is shorter than the message
longer : (limit : ℕ) (part more : List ℕ) (n : ℕ) → front limit part ≡ More → front limit (part ++ more) ≡ Whole n
    → length part < n
longer limit part more n unfinished found = elim (cases_lt (length part) n) [
  | inl short ↦ short
  | inr long ↦
      let x = part ++ more in
      let front_is : take n x ≡ take n part = take-append-le n part more long in
      let m = message_there limit x n found in
      let whole = subst (IsMessage limit) front_is m in
      let there = front_message limit (take n part) (drop n part) whole in
      let same = ap (front limit) (take-append-drop n part) in
      absurd (cc (there, same, unfinished))
]

-- ---- a piece from the client

module _ (limit : ℕ) (tables : List Interface) (pieces arriving : List Piece) (state : State)
    (bytes : List ℕ) (tokens : ℕ) (valid : Valid tables) (small : limit ≤ greatest_limit)
    (low : All (λ b. b < 256) bytes) (written : List QueuedMessage)
    (w : CallsHear limit tables pieces arriving written state) where
  abbrev piece : Piece
  piece = from_client bytes tokens

  abbrev with_piece : List Piece
  with_piece = pieces ++ piece ∷ []

  abbrev on_way : List Piece
  on_way = arriving ++ piece ∷ []

  abbrev e : List Judged
  e = judgements limit tables pieces

  abbrev streams : Direction → List ℕ
  streams d = stream_of d with_piece

  abbrev place : ℕ
  place = (cut limit (stream_of ToServer pieces)).place

  abbrev all : List ℕ
  all = state.core.inbox.bytes ++ bytes_passing on_way

  abbrev total : ℕ
  total = length state.core.inbox.tokens + tokens_passing on_way

  abbrev now : ℕ → ℕ
  now = supply (length state.core.inbox.bytes) (length state.core.inbox.tokens) on_way

  abbrev lowest : ℕ
  lowest = length state.core.inbox.bytes + length (bytes_passing arriving)

  come : (n : ℕ) → lowest < n → total ≤ now n
  come n above =
      let b = begun_last (n - length state.core.inbox.bytes) arriving piece (omega (arith, above)) in
      let c = tokens_passing_more arriving piece in
      omega (arith, b, c)

  low_now : All (λ b. b < 256) (streams ToServer)
  low_now = subst (All (λ b. b < 256)) (sym (stream_now limit tables pieces piece ToServer refl))
      (All-append (λ b. b < 256) (stream_of ToServer pieces) bytes w.hears.low low)

  starts : AcceptedTo limit tables valid small streams (piece_tokens ToServer with_piece) low_now written state all total
      now lowest come e w.asked w.hears.raw place (w.hears.part ++ bytes)
  starts =
      let h = w.hears in
      let count = count_now limit tables pieces piece ToServer refl in
      let more = tokens_passing_more arriving piece in
      let tokens = h.tokens in
      let within = h.within in
      let lengths = ap length h.waits in
      let l = length-append state.core.inbox.bytes (bytes_passing arriving) in
      let r = length-append (all_bytes h.raw) h.part in
      record {
        calls = w.calls;
        spelled = h.spelled;
        at = at_now limit tables pieces piece ToServer refl h.part h.rest;
        inside = inside_now limit tables pieces piece ToServer refl;
        waits = ap (λ (x : List ℕ). state.core.inbox.bytes ++ x) (bytes_passing_more arriving piece)
            ∙ sym (append_assoc state.core.inbox.bytes (bytes_passing arriving) bytes)
            ∙ ap (λ (x : List ℕ). x ++ bytes) h.waits ∙ append_assoc (all_bytes h.raw) h.part bytes;
        tokens = omega (arith, tokens, count, more);
        have = have_more (supply (length state.core.inbox.bytes) (length state.core.inbox.tokens) arriving) now
            (supply_more (length state.core.inbox.bytes) (length state.core.inbox.tokens) arriving piece) 0 0 h.raw h.have;
        within = omega (arith, within, count);
        past = λ n found. (let long = longer limit h.part bytes n (part_unfinished limit tables pieces arriving
            ((knowledge tables e).taken ToServer) state.core.inbox w.asked h) found
            in omega (arith, long, lengths, l, r));
      }

  abbrev on : Cutting
  on = cut_on limit tables pieces piece ToServer

  abbrev Outcome : Type 0
  Outcome = AcceptsOrBreaks limit tables valid small streams (piece_tokens ToServer with_piece) low_now written state all
      total now lowest come e on

  -- the same with the piece, which brings no tokens to the client
  abbrev pub HearsOn : Type 0
  HearsOn = CallsHear limit tables with_piece on_way written state
      × ((knowledge tables (judgements limit tables with_piece)).taken ToClient ≡ (knowledge tables e).taken ToClient)

  outcome_of : Outcome → ClientBroke limit tables with_piece ⊎ HearsOn
  outcome_of (inl b) =
      let count = length_messages tables (session_of limit pieces) in
      let index : length b.before ≡ length (merged limit pieces) + b.index = (let p = b.place in omega (arith, p, count)) in
      inl (record {
        before = b.before;
        fault = b.fault;
        after = b.after;
        is = judged_on limit tables pieces piece ToServer refl w.hears.sound ∙ b.is;
        passed = b.passed;
        frame = b.frame;
        there = ap (λ (l : List FramedMessage). slice_get l (length b.before)) (merged_with limit pieces piece)
            ∙ get_behind (merged limit pieces) (completed limit pieces piece) b.index (length b.before) index
            ∙ ap (λ (l : List FramedMessage). slice_get l b.index)
            (completed_on limit tables pieces piece ToServer refl w.hears.sound) ∙ b.there;
        direction = b.direction;
      })
  outcome_of (inr a) =
      let same = judged_on limit tables pieces piece ToServer refl w.hears.sound in
      let cut_is = cut_now limit tables pieces piece ToServer refl w.hears.sound in
      let taken = λ (d : Direction). ap (λ (j : List Judged). (knowledge tables j).taken d) same in
      let tokens = a.tokens in
      let within = a.within in
      let own = taken ToServer in
      let hears_on : CallsHear limit tables with_piece on_way written state = record {
        asked = a.asked;
        calls = subst (λ (j : List Judged). ServerCalls limit tables j a.asked written state) (sym same) a.calls;
        hears = record {
          same_limit = w.hears.same_limit;
          low = low_now;
          within = omega (arith, within, own);
          raw = a.raw;
          spelled = a.spelled;
          sound = ap (λ (y : Cutting). y.has_bad_size) cut_is ∙ a.sound;
          part = a.part;
          rest = ap (λ (y : Cutting). drop y.place (streams ToServer)) cut_is ∙ a.rest;
          waits = a.waits;
          tokens = omega (arith, tokens, own);
          have = a.have;
        };
      } in
      inr (hears_on, taken ToClient ∙ a.other)

  -- what the client wrote is accepted, or breaks a rule
  pub hears_piece : suc (length (judgements limit tables with_piece)) < max_births
      → ClientBroke limit tables with_piece ⊎ HearsOn
  hears_piece few = outcome_of (accept_all limit tables valid small streams (piece_tokens ToServer with_piece) low_now
      written state all total now lowest come (length (streams ToServer)) e w.asked w.hears.raw place
      (w.hears.part ++ bytes) starts (omega arith)
      (subst (λ (j : List Judged). suc (length j) < max_births)
      (judged_on limit tables pieces piece ToServer refl w.hears.sound) few))

-- the same, with what the server gave out
pub plays_on : (limit : ℕ) (tables : List Interface) (pieces arriving leaving : List Piece) (state : State)
    (bytes : List ℕ) (tokens : ℕ) → Valid tables → limit ≤ greatest_limit → All (λ b. b < 256) bytes
    → PlaysWell limit tables pieces arriving leaving state
    → suc (length (judgements limit tables (pieces ++ from_client bytes tokens ∷ []))) < max_births
    → ClientBroke limit tables (pieces ++ from_client bytes tokens ∷ [])
    ⊎ PlaysWell limit tables (pieces ++ from_client bytes tokens ∷ []) (arriving ++ from_client bytes tokens ∷ []) leaving
    state
plays_on limit tables pieces arriving leaving state bytes tokens valid small low w few =
    by_piece (hears_piece limit tables pieces arriving state bytes tokens valid small low w.written
    (record { asked = w.asked; calls = w.calls; hears = w.hears }) few)
  where
    piece : Piece
    piece = from_client bytes tokens

    by_piece : ClientBroke limit tables (pieces ++ piece ∷ [])
        ⊎ (CallsHear limit tables (pieces ++ piece ∷ []) (arriving ++ piece ∷ []) w.written state
        × ((knowledge tables (judgements limit tables (pieces ++ piece ∷ []))).taken ToClient
        ≡ (knowledge tables (judgements limit tables pieces)).taken ToClient))
        → ClientBroke limit tables (pieces ++ piece ∷ [])
        ⊎ PlaysWell limit tables (pieces ++ piece ∷ []) (arriving ++ piece ∷ []) leaving state
    by_piece (inl b) = inl b
    by_piece (inr h) = inr (record {
      asked = h.0.asked;
      written = w.written;
      calls = h.0.calls;
      hears = h.0.hears;
      tells = tells_still limit tables pieces piece leaving w.written state.core.outbox
          ((knowledge tables (judgements limit tables pieces)).taken ToClient)
          ((knowledge tables (judgements limit tables (pieces ++ piece ∷ []))).taken ToClient) refl h.1 w.tells;
    })

-- ---- a piece from the server

module _ (limit : ℕ) (tables : List Interface) (pieces leaving : List Piece) (piece : Piece)
    (written : List QueuedMessage) (outbox : Outgoing) (F : List Judged → List QueuedMessage → Type 0)
    (tells : TellsWell limit pieces (piece ∷ leaving) ((knowledge tables (judgements limit tables pieces)).taken ToClient)
    written outbox) (holds : F (judgements limit tables pieces) written) where
  abbrev recorded : List Piece
  recorded = pieces ++ piece ∷ []

  abbrev judged_so_far : List Judged
  judged_so_far = judgements limit tables pieces

  abbrev streams_now : Direction → List ℕ
  streams_now d = stream_of d recorded

  abbrev left_behind : List ℕ
  left_behind = bytes_passing leaving ++ outbox.left

  abbrev is_event : piece.direction ≡ ToClient
  is_event = tells.to_client.0

  -- it is recorded; F holds of what is not
  pub record TellsOn : Type 0 where
    pub now_written : List QueuedMessage
    pub still_holds : F (judgements limit tables recorded) now_written
    pub still_tells : TellsWell limit recorded leaving ((knowledge tables (judgements limit tables recorded)).taken ToClient)
        now_written outbox
    pub other : (knowledge tables (judgements limit tables recorded)).taken ToServer
        ≡ (knowledge tables judged_so_far).taken ToServer

  module _ (each : KeepsEach limit tables streams_now (piece_tokens ToClient recorded) F) where
    begins_here : RecordedTo limit tables streams_now (piece_tokens ToClient recorded) F each leaving outbox.messages
        left_behind judged_so_far tells.begun (cut limit (stream_of ToClient pieces)).place (tells.part ++ piece.bytes)
        (tells.have + piece.tokens)
    begins_here =
        let h = tells in
        let count = count_now limit tables pieces piece ToClient is_event in
        let have_is = h.have_is in
        let tokens = h.tokens in
        let lengths = length-append h.part piece.bytes in
        let now = have_more (supply (length h.part) h.have (piece ∷ leaving))
        (supply (length h.part + length piece.bytes) (h.have + piece.tokens) leaving)
        (supply_fed (length h.part) h.have piece leaving) 0 0 h.begun h.in_time in
        record {
          holds = subst (λ (l : List QueuedMessage). F judged_so_far l) h.all holds;
          at = at_now limit tables pieces piece ToClient is_event h.part h.rest;
          inside = inside_now limit tables pieces piece ToClient is_event;
          bytes = append_assoc h.part piece.bytes left_behind
              ∙ ap (λ (l : List ℕ). h.part ++ l)
              (sym (append_assoc piece.bytes (bytes_passing leaving) outbox.left)) ∙ h.bytes;
          whole = each_front (λ (m : QueuedMessage). IsMessage limit m.bytes) h.begun outbox.messages
              (subst (Each (λ m. IsMessage limit m.bytes)) h.all h.whole);
          have_is = omega (arith, have_is, count);
          tokens = omega (arith, tokens, count);
          in_time = subst (λ (n : ℕ). HaveTokens (supply n (h.have + piece.tokens) leaving) 0 0 h.begun) (sym lengths) now;
        }

    pub tells_on : TellsOn
    tells_on =
        let h = tells in
        let a = record_all limit tables streams_now (piece_tokens ToClient recorded) F each leaving outbox.messages
        left_behind h.begun judged_so_far (cut limit (stream_of ToClient pieces)).place (h.part ++ piece.bytes)
        (h.have + piece.tokens) begins_here in
        let same = judged_on limit tables pieces piece ToClient is_event h.sound in
        let cut_is = cut_now limit tables pieces piece ToClient is_event h.sound in
        let taken = λ (d : Direction). ap (λ (j : List Judged). (knowledge tables j).taken d) same in
        let own = taken ToClient in
        let have_is = a.have_is in
        let tokens = a.tokens in
        let rest_whole = each_rest (λ (m : QueuedMessage). IsMessage limit m.bytes) h.begun outbox.messages
        (subst (Each (λ m. IsMessage limit m.bytes)) h.all h.whole) in
        record {
          now_written = a.gone ++ outbox.messages;
          still_holds = subst (λ (j : List Judged). F j (a.gone ++ outbox.messages)) (sym same) a.holds;
          still_tells = record {
            to_client = h.to_client.1;
            begun = a.gone;
            all = refl;
            whole = each_more (λ (m : QueuedMessage). IsMessage limit m.bytes) a.gone outbox.messages a.whole rest_whole;
            sound = ap (λ (y : Cutting). y.has_bad_size) cut_is ∙ a.sound;
            part = a.part;
            rest = ap (λ (y : Cutting). drop y.place (streams_now ToClient)) cut_is ∙ a.rest;
            bytes = a.bytes;
            have = a.have;
            have_is = omega (arith, have_is, own);
            tokens = omega (arith, tokens, own);
            in_time = a.in_time;
          };
          other = taken ToServer ∙ a.other;
        }

-- what the server gave out is recorded, and keeps all rules
pub records_piece : (limit : ℕ) (tables : List Interface) (pieces arriving leaving : List Piece) (piece : Piece)
    (state : State) → Valid tables → PlaysWell limit tables pieces arriving (piece ∷ leaving) state
    → PlaysWell limit tables (pieces ++ piece ∷ []) arriving leaving state
records_piece limit tables pieces arriving leaving piece state valid w =
    let streams = λ (d : Direction). stream_of d (pieces ++ piece ∷ []) in
    let t = piece_tokens ToClient (pieces ++ piece ∷ []) in
    let o = tells_on limit tables pieces leaving piece w.written state.core.outbox
    (CallsLeave limit tables valid streams t w.asked state) w.tells w.calls
    (calls_keep_each limit tables valid streams t w.asked state) in
    record {
      asked = w.asked;
      written = o.now_written;
      calls = o.still_holds;
      hears = hears_still limit tables pieces piece arriving w.asked state.core.inbox
          ((knowledge tables (judgements limit tables pieces)).taken ToServer)
          ((knowledge tables (judgements limit tables (pieces ++ piece ∷ []))).taken ToServer)
          (ap (λ (d : Direction). same_direction d ToServer) w.tells.to_client.0) o.other w.hears;
      tells = o.still_tells;
    }
