-- The requests that more bytes complete: the checker accepts them all, or the client broke a rule.
use Rattle.std.proofs.Common.{◌≡◌, ◌⊎◌, inl, inr, ℕ, zero, suc, ◌+◌, ◌-◌, ◌<◌, ◌≤◌, Bool, true, false, cond, List, []}
use Rattle.std.proofs.Common.{◌∷◌, ◌++◌, length, length-append, drop, take, map, slice_get, refl, sym, ap, subst, ◌∙◌}
use Rattle.std.proofs.Common.{arith}
use Rattle.std.specs.Prelude.{replicate}
use Rattle.std.specs.List.{All}
use Rattle.std.specs.declared.option.Option.{Option}
use Rattle.std.specs.declared.option.Option.TheVariants.{None, Some}
use Rattle.std.specs.declared.result.Result.TheVariants.{Err, Ok}
use Rattle.std.proofs.lemmas.List.{append_assoc, append-nil, drop-drop, drop-take, drop_all, length-drop, length-replicate}
use Rattle.std.proofs.lemmas.List.{length-take, take-append-drop}
use Rattle.wl_wire.specs.Word.{header_at}
use Rattle.wl_wire.specs.declared.header.Header.{Header}
use Rattle.wl_sigs.specs.Side.TheVariants.{Request}
use Rattle.wl_sigs.specs.Tables.{Interface, MessageSignature, descriptors, signature_at}
use Rattle.wl_sigs.specs.Valid.{Valid}
use Rattle.wl_message.specs.Cut.{front, Front, More, Bad, Whole, greatest_limit}
use Rattle.wl_message.specs.Outgoing.{QueuedMessage, all_bytes, all_tokens, queued}
use Rattle.wl_message.proofs.Cuts.{front_none, front_spoiled, message_there}
use Rattle.wl_message.proofs.Fronts.{front_stands}
use Rattle.wl_object_map.specs.declared.object.Maker.TheVariants.{Client}
use Rattle.wl_object_map.specs.Objects.{maker_of}
use Rattle.wl_object_map.specs.View.{max_births}
use Rattle.wl_objects.specs.Messages.{NewObject}
use Rattle.wl_objects.specs.Spelling.{SpellsAll}
use Rattle.wl_objects.specs.declared.error.Fault.{Fault}
use Rattle.wl_objects.specs.declared.error.Fault.TheVariants.{BadSize}
use Rattle.wl_recording.specs.declared.piece.Direction.{Direction}
use Rattle.wl_recording.specs.declared.piece.Direction.TheVariants.{ToServer, ToClient}
use Rattle.wl_check.specs.Changes.{Call, changes}
use Rattle.wl_check.specs.Merged.{span, Cutting, cutting, cut_by_front, cut_stopped_at, framed}
use Rattle.wl_check.specs.Merged.{same_direction, span_then_cut}
use Rattle.wl_check.specs.Rules.{judged, judged_message}
use Rattle.wl_check.specs.Session.{Judged, changes_at, judged_after}
use Rattle.wl_check.specs.declared.frames.FramedMessage.{FramedMessage}
use Rattle.wl_check.proofs.JudgedByPlaces.{after_front}
use Rattle.wl_check.proofs.LongerRecording.{behind_one}
use Rattle.wl_check.proofs.MessagesOfStream.{step}
use Rattle.wl_server.specs.State.{State}
use Rattle.theory_connection.specs.Meant.{Known, Message, same_maker, wire}
use Rattle.theory_connection.proofs.Channels.{all_bytes_more, all_tokens_more}
use Rattle.theory_connection.specs.Flight.{server_rows}
use Rattle.theory_recording.specs.Follows.{AllGoOn, birth_places, knowledge, place_of_making, places_of_making}
use Rattle.theory_recording.proofs.CalledAsMeant.{other_taken}
use Rattle.theory_peers.specs.AcceptedRequest.{IsAcceptedRequest, asked_as}
use Rattle.theory_peers.specs.ServerCalls as calls
use Rattle.theory_peers.specs.ServerCalls.{ServerCalls}
use Rattle.theory_peers.proofs.CallsOfServer.{calls_keep, calls_run}
use Rattle.theory_peers.proofs.HeardRequests.{SpellRequests, SpellsRequest, header_front}
use Rattle.theory_peers.proofs.JudgedRequests.{judged_as}
use Rattle.theory_peers.proofs.PassingPieces.{HaveTokens, have_join}
use Rattle.theory_peers.proofs.RunOfServer.{run_follows}
use Rattle.theory_peers.proofs.ServerReads.{spelled_by}

-- ---- the client makes at most one object by each message, and wl_display

place_if : (b : Bool) (p : ℕ) → length (cond b (p ∷ []) []) ≤ 1
place_if true p = omega arith
place_if false p = omega arith

place_few : (o : Option NewObject) (p : ℕ) → length (place_of_making Client o p) ≤ 1
place_few None p = omega arith
place_few (Some new) p = place_if (same_maker (maker_of new.id) Client) p

making_few : (made : ℕ → Option NewObject) (n : ℕ) → length (places_of_making made n Client) ≤ n
unfolding places_of_making
making_few made zero = omega arith
making_few made (suc n) =
    let h = making_few made n in
    let one = place_few (made n) n in
    omega (arith, h, one, length-append (places_of_making made n Client) (place_of_making Client (made n) n))

births_few : (tables : List Interface) (e : List Judged) → length (birth_places tables e Client) ≤ suc (length e)
births_few tables e = making_few (λ place. (changes_at tables e place).made) (suc (length e))

-- ---- the first message that breaks a rule

-- Of the messages that follow these, one breaks a rule, and it is a request. None before it does.
pub record BreaksAmong (limit : ℕ) (tables : List Interface) (streams : Direction → List ℕ) (e : List Judged)
    (frames : List FramedMessage) : Type 0 where
  pub before : List Judged
  pub fault : Fault
  pub after : List Judged
  pub index : ℕ
  pub frame : FramedMessage
  pub is : judged_after limit tables streams e frames ≡ before ++ Err fault ∷ after
  pub passed : AllGoOn before
  pub place : length before ≡ length e + index
  pub there : slice_get frames index ≡ Some frame
  pub direction : frame.direction ≡ ToServer

spell_more : (limit : ℕ) (tables : List Interface) (asked : List (Message Known)) (raw : List QueuedMessage)
    (m : Message Known) (q : QueuedMessage) → SpellRequests limit tables asked raw → SpellsRequest limit tables m q
    → SpellRequests limit tables (asked ++ m ∷ []) (raw ++ q ∷ [])
spell_more limit tables [] [] m q s one = (one, tt)
spell_more limit tables [] (r ∷ raw) m q s one = absurd s
spell_more limit tables (a ∷ asked) [] m q s one = absurd s
spell_more limit tables (a ∷ asked) (r ∷ raw) m q s one = (s.0, spell_more limit tables asked raw m q s.1 one)

-- ---- requests one after another

-- A server with this state has written these messages. All of these bytes are recorded and not yet
-- read, with this number of tokens; behind the lowest place, all tokens have come.
module _ (limit : ℕ) (tables : List Interface) (valid : Valid tables) (small : limit ≤ greatest_limit)
    (streams : Direction → List ℕ) (t : ℕ) (bytes : All (λ b. b < 256) (streams ToServer))
    (written : List QueuedMessage) (state : State) (all : List ℕ) (total : ℕ) (f : ℕ → ℕ) (lowest : ℕ)
    (come : (n : ℕ) → lowest < n → total ≤ f n) where
  abbrev stream : List ℕ
  stream = streams ToServer

  abbrev frames_of : Cutting → List FramedMessage
  frames_of c = map (framed ToServer t) c.spans

  abbrev then_judged : List Judged → Cutting → List Judged
  then_judged e c = judged_after limit tables streams e (frames_of c)

  -- so far the checker accepts these requests, up to a place of the stream
  pub record AcceptedTo (e : List Judged) (asked : List (Message Known)) (raw : List QueuedMessage) (p : ℕ)
      (x : List ℕ) : Type 0 where
    pub calls : ServerCalls limit tables e asked written state
    pub spelled : SpellRequests limit tables asked raw
    pub at : drop p stream ≡ x
    pub inside : p ≤ length stream
    pub waits : all ≡ all_bytes raw ++ x
    pub tokens : t + length (all_tokens raw) ≡ (knowledge tables e).taken ToServer + total
    pub have : HaveTokens f 0 0 raw
    pub within : (knowledge tables e).taken ToServer ≤ t
    pub past : (n : ℕ) → front limit x ≡ Whole n → lowest < length (all_bytes raw) + n

  -- it accepts all that are whole in the stream
  pub record AcceptsAll (e : List Judged) (c : Cutting) : Type 0 where
    pub asked : List (Message Known)
    pub raw : List QueuedMessage
    pub calls : ServerCalls limit tables (then_judged e c) asked written state
    pub spelled : SpellRequests limit tables asked raw
    pub sound : c.has_bad_size ≡ false
    pub part : List ℕ
    pub rest : drop c.place stream ≡ part
    pub waits : all ≡ all_bytes raw ++ part
    pub tokens : t + length (all_tokens raw) ≡ (knowledge tables (then_judged e c)).taken ToServer + total
    pub have : HaveTokens f 0 0 raw
    pub within : (knowledge tables (then_judged e c)).taken ToServer ≤ t
    pub other : (knowledge tables (then_judged e c)).taken ToClient ≡ (knowledge tables e).taken ToClient

  abbrev pub AcceptsOrBreaks : List Judged → Cutting → Type 0
  AcceptsOrBreaks e c = BreaksAmong limit tables streams e (frames_of c) ⊎ AcceptsAll e c

  -- ---- one request

  record AcceptsNext (e : List Judged) (call : Call) (asked : List (Message Known)) (p n : ℕ) (x : List ℕ) : Type 0
    where
      raw : List QueuedMessage
      to : AcceptedTo (e ++ Ok call ∷ []) (asked ++ asked_as tables e call ∷ []) raw (p + n) (drop n x)
      other : (knowledge tables (e ++ Ok call ∷ [])).taken ToClient ≡ (knowledge tables e).taken ToClient

  accept : (e : List Judged) (asked : List (Message Known)) (raw : List QueuedMessage) (p : ℕ) (x : List ℕ)
      (h : AcceptedTo e asked raw p x) (n : ℕ) → front limit x ≡ Whole n → (call : Call)
      → judged limit tables (knowledge tables e) stream (framed ToServer t (span p n)) ≡ Ok call
      → suc (length e) < max_births → AcceptsNext e call asked p n x
  accept e asked raw p x h n found call is few =
      let st = front_stands limit x n found in
      let size = st.size.header in
      let most = st.size.within in
      let long = st.there in
      let births = births_few tables e in
      let taken = (knowledge tables e).taken ToServer in
      let accepted : IsAcceptedRequest limit tables e call = record {
        stream = stream;
        bytes = bytes;
        place = p;
        size = n;
        short = omega (arith, most, small);
        tokens = t;
        is = is;
        few = omega (arith, births, few);
      } in
      let run = calls_run limit tables e asked written state valid h.calls in
      let follows = run_follows limit tables e asked run.told (server_rows state.core.view) valid run.run in
      let sp = spelled_by limit tables e follows.here call valid follows.known_as accepted in
      let m = asked_as tables e call in
      let k = descriptors sp.signature.kinds in
      let zeros : List ℕ = replicate k 0 in
      let q = queued (take n x) zeros in
      let own : length (take n x) ≡ n = omega (arith, length-take n x, long) in
      let count : length zeros ≡ k = length-replicate k 0 in
      let header : header_at (drop p stream) ≡ header_at (take n x) =
      ap header_at (h.at ∙ sym (take-append-drop n x))
      ∙ header_front (take n x) (drop n x) (omega (arith, own, size)) in
      let eight : 8 + (n - 8) ≡ n = omega (arith, size) in
      let body : take (n - 8) (drop (p + 8) stream) ≡ drop 8 (take n x) =
      ap (take (n - 8)) (sym (drop-drop 8 p stream) ∙ ap (drop 8) h.at) ∙ sym (drop-take 8 (n - 8) x)
      ∙ ap (λ (l : ℕ). drop 8 (take l x)) eight in
      let j = judged_as limit tables (knowledge tables e) stream p n t call is in
      let both : Some sp.signature ≡ Some j.received.signature =
      sym sp.there ∙ ap (λ (c : Call). signature_at tables c.received.entry.iface.0 Request c.opcode) j.call_is
      ∙ j.read.there in
      let same : sp.signature ≡ j.received.signature = cc both in
      let takes : (knowledge tables (e ++ Ok call ∷ [])).taken ToServer ≡ taken + k =
      (behind_one tables e call).taken_is ToServer
      ∙ ap (λ (c : Call). taken + cond (same_direction c.direction ToServer) (changes tables c).tokens 0) j.call_is
      ∙ ap (λ (s : MessageSignature). taken + descriptors s.kinds) (sym same) in
      let enough = sp.enough in
      let within = h.within in
      let fits : taken + k ≤ t = omega (arith, enough, within) in
      let tokens_are = all_tokens_more raw (q ∷ []) in
      let bytes_are = all_bytes_more raw (q ∷ []) in
      let token_count : length (all_tokens (raw ++ q ∷ [])) ≡ length (all_tokens raw) + k =
      (let a = ap length tokens_are in
      omega (arith, a, count, length-append (all_tokens raw) (all_tokens (q ∷ [])), length-append zeros [])) in
      let byte_count : length (all_bytes (raw ++ q ∷ [])) ≡ length (all_bytes raw) + n =
      (let a = ap length bytes_are in
      omega (arith, a, own, length-append (all_bytes raw) (all_bytes (q ∷ [])), length-append (take n x) [])) in
      let before = h.tokens in
      let now : t + length (all_tokens (raw ++ q ∷ [])) ≡ (knowledge tables (e ++ Ok call ∷ [])).taken ToServer + total =
      omega (arith, before, token_count, takes) in
      let past = h.past n found in
      record {
        raw = raw ++ q ∷ [];
        to = record {
          calls = calls.accepts h.calls call accepted;
          spelled = spell_more limit tables asked raw m q h.spelled (record {
            whole = message_there limit x n found;
            spelled = record {
              object = ap (λ (y : Header). y.object) (sym header) ∙ sp.object;
              opcode = ap (λ (y : Header). y.opcode) (sym header) ∙ sp.opcode;
              signature = sp.signature;
              there = sp.there;
              spelled = subst (SpellsAll sp.signature.kinds (map wire m.args)) body sp.spelled;
              enough = omega (arith, count);
            };
            exact = sym count;
          });
          at = sym (drop-drop n p stream) ∙ ap (drop n) h.at;
          inside = (let l = ap length h.at in let i = h.inside in omega (arith, l, i, long, length-drop p stream));
          waits = h.waits ∙ ap (λ (l : List ℕ). all_bytes raw ++ l) (sym (take-append-drop n x))
              ∙ sym (append_assoc (all_bytes raw) (take n x) (drop n x))
              ∙ ap (λ (l : List ℕ). l ++ drop n x)
              (ap (λ (l : List ℕ). all_bytes raw ++ l) (sym (append-nil (take n x))) ∙ sym bytes_are);
          tokens = now;
          have = have_join f 0 (length (all_bytes raw)) 0 (length (all_tokens raw)) raw (q ∷ []) (omega arith) (omega arith)
              h.have (
                (let c = come (length (all_bytes raw) + length (take n x)) (omega (arith, past, own)) in
                    omega (arith, c, now, token_count, takes, fits, count)),
                tt,
              );
          within = omega (arith, takes, fits);
          past = λ i more. omega (arith, past, byte_count);
        };
        other = other_taken tables e call ToClient
            (ap (λ (c : Call). same_direction c.direction ToClient) j.call_is);
      }

  -- ---- what is found at a place

  -- only a part of a request is there
  stops : (e : List Judged) (asked : List (Message Known)) (raw : List QueuedMessage) (p : ℕ) (x : List ℕ)
      → AcceptedTo e asked raw p x → AcceptsAll e (cut_stopped_at p)
  unfolding judged_after
  stops e asked raw p x h = record {
    asked = asked;
    raw = raw;
    calls = h.calls;
    spelled = h.spelled;
    sound = refl;
    part = x;
    rest = h.at;
    waits = h.waits;
    tokens = h.tokens;
    have = h.have;
    within = h.within;
    other = refl;
  }

  -- the request at a place breaks a rule
  breaks : (e : List Judged) (frame : FramedMessage) (frames : List FramedMessage) (fault : Fault) → AllGoOn e
      → frame.direction ≡ ToServer
      → judged limit tables (knowledge tables e) (streams frame.direction) frame ≡ Err fault
      → BreaksAmong limit tables streams e (frame ∷ frames)
  unfolding judged_after
  breaks e frame frames fault passed direction is =
      let rest = after_front limit tables streams (e ++ Err fault ∷ []) frames in
      record {
        before = e;
        fault = fault;
        after = rest.0;
        index = 0;
        frame = frame;
        is = ap (λ (j : Judged). judged_after limit tables streams (e ++ j ∷ []) frames) is ∙ rest.1
            ∙ append_assoc e (Err fault ∷ []) rest.0;
        passed = passed;
        place = omega arith;
        there = refl;
        direction = direction;
      }

  -- the request at a place is accepted, and others may follow it
  goes : (e : List Judged) (call : Call) (p n : ℕ) (c : Cutting)
      → judged limit tables (knowledge tables e) stream (framed ToServer t (span p n)) ≡ Ok call
      → (knowledge tables (e ++ Ok call ∷ [])).taken ToClient ≡ (knowledge tables e).taken ToClient
      → AcceptsOrBreaks (e ++ Ok call ∷ []) c → AcceptsOrBreaks e (span_then_cut (span p n) c)
  unfolding judged_after
  goes e call p n c is other (inl b) = inl (record {
    before = b.before;
    fault = b.fault;
    after = b.after;
    index = suc b.index;
    frame = b.frame;
    is = ap (λ (j : Judged). judged_after limit tables streams (e ++ j ∷ []) (frames_of c)) is ∙ b.is;
    passed = b.passed;
    place = (let h = b.place in omega (arith, h, length-append e (Ok call ∷ [])));
    there = b.there;
    direction = b.direction;
  })
  goes e call p n c is other (inr a) =
      let same : then_judged e (span_then_cut (span p n) c) ≡ then_judged (e ++ Ok call ∷ []) c =
      ap (λ (j : Judged). judged_after limit tables streams (e ++ j ∷ []) (frames_of c)) is in
      let taken = λ (d : Direction). ap (λ (j : List Judged). (knowledge tables j).taken d) same in
      inr (record {
        asked = a.asked;
        raw = a.raw;
        calls = subst (λ (j : List Judged). ServerCalls limit tables j a.asked written state) (sym same) a.calls;
        spelled = a.spelled;
        sound = a.sound;
        part = a.part;
        rest = a.rest;
        waits = a.waits;
        tokens = (let b = a.tokens in let s = taken ToServer in omega (arith, b, s));
        have = a.have;
        within = (let b = a.within in let s = taken ToServer in omega (arith, b, s));
        other = taken ToClient ∙ a.other ∙ other;
      })

  -- ---- all of them

  fewer : (e : List Judged) (c : Cutting) (b : ℕ) → suc (length (then_judged e c)) < b → suc (length e) < b
  fewer e c b h =
      let rest = after_front limit tables streams e (frames_of c) in
      let l = ap length rest.1 in
      omega (arith, h, l, length-append e rest.0)

  judged_next : (e : List Judged) (call : Call) (p n : ℕ) (c : Cutting)
      → judged limit tables (knowledge tables e) stream (framed ToServer t (span p n)) ≡ Ok call
      → then_judged e (span_then_cut (span p n) c) ≡ then_judged (e ++ Ok call ∷ []) c
  unfolding judged_after
  judged_next e call p n c is =
      ap (λ (j : Judged). judged_after limit tables streams (e ++ j ∷ []) (frames_of c)) is

  abbrev from_place : ℕ → Cutting
  from_place p = cutting limit (length stream) stream p

  -- the same from a later place on
  abbrev Again : ℕ → Type 0
  Again k = (e : List Judged) (asked : List (Message Known)) (raw : List QueuedMessage) (p : ℕ) (x : List ℕ)
      → AcceptedTo e asked raw p x → length stream ≤ p + k
      → suc (length (then_judged e (from_place p))) < max_births → AcceptsOrBreaks e (from_place p)

  cut_here : (e : List Judged) (asked : List (Message Known)) (raw : List QueuedMessage) (p : ℕ) (x : List ℕ)
      → AcceptedTo e asked raw p x → (g : Front) → front limit x ≡ g → from_place p ≡ cut_by_front p g from_place
  cut_here e asked raw p x h g is = step limit (length stream) stream p h.inside (omega arith)
      ∙ ap (λ (o : Front). cut_by_front p o from_place) (ap (front limit) h.at ∙ is)

  by_judged : (k : ℕ) (e : List Judged) (asked : List (Message Known)) (raw : List QueuedMessage) (p : ℕ) (x : List ℕ)
      → AcceptedTo e asked raw p x → length stream ≤ p + suc k
      → suc (length (then_judged e (from_place p))) < max_births → Again k → (n : ℕ) → front limit x ≡ Whole n
      → (j : Judged) → judged limit tables (knowledge tables e) stream (framed ToServer t (span p n)) ≡ j
      → AcceptsOrBreaks e (span_then_cut (span p n) (from_place (p + n)))
  by_judged k e asked raw p x h enough few again n found (Err fault) is = inl (breaks e (framed ToServer t (span p n))
      (frames_of (from_place (p + n))) fault (calls_keep limit tables e asked written state valid h.calls) refl is)
  by_judged k e asked raw p x h enough few again n found (Ok call) is =
      let st = front_stands limit x n found in
      let size = st.size.header in
      let c = from_place (p + n) in
      let cut_is = cut_here e asked raw p x h (Whole n) found in
      let all : suc (length (then_judged (e ++ Ok call ∷ []) c)) < max_births =
      subst (λ (j : List Judged). suc (length j) < max_births)
      (ap (then_judged e) cut_is ∙ judged_next e call p n c is) few in
      let next = accept e asked raw p x h n found call is (fewer e (from_place p) max_births few) in
      goes e call p n c is next.other (again (e ++ Ok call ∷ []) (asked ++ asked_as tables e call ∷ [])
      next.raw (p + n) (drop n x) next.to (omega (arith, enough, size)) all)

  by_front : (e : List Judged) (asked : List (Message Known)) (raw : List QueuedMessage) (p : ℕ) (x : List ℕ)
      → AcceptedTo e asked raw p x
      → ((n : ℕ) → front limit x ≡ Whole n → AcceptsOrBreaks e (span_then_cut (span p n) (from_place (p + n))))
      → (g : Front) → front limit x ≡ g → AcceptsOrBreaks e (from_place p)
  by_front e asked raw p x h whole More is =
      subst (AcceptsOrBreaks e) (sym (cut_here e asked raw p x h More is)) (inr (stops e asked raw p x h))
  by_front e asked raw p x h whole (Bad n) is =
      subst (AcceptsOrBreaks e) (sym (cut_here e asked raw p x h (Bad n) is)) (inl
      (breaks e (framed ToServer t (span p n)) [] BadSize (calls_keep limit tables e asked written state valid h.calls) refl
      (ap (λ (b : Bool). cond b (judged_message tables (knowledge tables e) (framed ToServer t (span p n))
      (header_at (drop p stream)) (take (n - 8) (drop (p + 8) stream))) (Err BadSize))
      (front_spoiled limit x n is).none)))
  by_front e asked raw p x h whole (Whole n) is =
      subst (AcceptsOrBreaks e) (sym (cut_here e asked raw p x h (Whole n) is)) (whole n is)

  -- from a place on the checker accepts all that is whole, or the client breaks a rule
  pub accept_all : (k : ℕ) → Again k
  accept_all zero e asked raw p x h enough few = by_front e asked raw p x h
      (λ n is. (let none = ap (front limit) (sym h.at ∙ drop_all p stream (omega (arith, enough))) ∙ front_none limit
      in absurd (cc (is, none)))) (front limit x) refl
  accept_all (suc k) e asked raw p x h enough few = by_front e asked raw p x h
      (λ n is. by_judged k e asked raw p x h enough few
      (λ e' asked' raw' p' x' h' enough' few'. accept_all k e' asked' raw' p' x' h' enough' few') n is
      (judged limit tables (knowledge tables e) stream (framed ToServer t (span p n))) refl) (front limit x) refl
