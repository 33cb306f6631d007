-- In any run of a server by bytes, the first recorded message that breaks a rule is the client's.
use Rattle.std.proofs.Common.{◌≡◌, ◌⊎◌, inl, inr, ℕ, zero, suc, ◌+◌, ◌<◌, ◌≤◌, Bool, true, false, cond, List, [], ◌∷◌}
use Rattle.std.proofs.Common.{◌++◌, length, length-append, nat_lt, slice_get, refl, sym, ap, subst, ◌∙◌, arith}
use Rattle.std.specs.declared.option.Option.{Option}
use Rattle.std.specs.declared.option.Option.TheVariants.{None, Some}
use Rattle.std.specs.declared.result.Result.TheVariants.{Err}
use Rattle.std.proofs.lemmas.Bool.{cases_lt, lt-ltb}
use Rattle.std.proofs.lemmas.List.Elements.{All-nil}
use Rattle.wl_sigs.specs.Tables.{Interface}
use Rattle.wl_sigs.specs.Valid.{Valid}
use Rattle.wl_sigs.specs.Side.TheVariants.{Event as event_side}
use Rattle.wl_message.specs.Arrived.{Arrived}
use Rattle.wl_message.specs.Cut.{greatest_limit}
use Rattle.wl_message.specs.Outgoing.{QueuedMessage, after_taking}
use Rattle.wl_message.specs.declared.amounts.Sizes.{Sizes}
use Rattle.wl_object_map.specs.View.{max_births}
use Rattle.wl_objects.specs.declared.error.Fault.{Fault}
use Rattle.wl_objects.specs.Messages.{checked}
use Rattle.wl_connection.specs.Sending.{after_send}
use Rattle.wl_server.specs.Announcing.{after_announce}
use Rattle.wl_server.specs.Calls.{after_drop}
use Rattle.wl_server.specs.Requests.{request}
use Rattle.wl_server.specs.State.{State, new_state, with_core}
use Rattle.wl_recording.specs.declared.piece.Direction.{Direction}
use Rattle.wl_recording.specs.declared.piece.Direction.TheVariants.{ToServer, ToClient}
use Rattle.wl_recording.specs.Piece.{Piece}
use Rattle.wl_check.specs.Merged.{completed, cutting, merged, merged_within, stream_of}
use Rattle.wl_check.specs.Places.{taken}
use Rattle.wl_check.specs.Session.{IsFirstBrokenMessage, IsLawful, Judged, Session, breaks, ends_session, examined, fault_of}
use Rattle.wl_check.specs.Session.{judged_after, session_of}
use Rattle.wl_check.specs.declared.frames.FramedMessage.{FramedMessage}
use Rattle.wl_check.proofs.JudgedByPlaces.{after_front, get_front, length_messages}
use Rattle.wl_check.proofs.LongerRecording.{messages_more}
use Rattle.theory_recording.specs.Follows.{AllGoOn, knowledge}
use Rattle.theory_recording.specs.Linked.{judgements}
use Rattle.theory_peers.specs.ServerCalls as calls
use Rattle.theory_peers.specs.ServerCalls.{IsSoundServer}
use Rattle.theory_peers.specs.ServerStreams.{NoRequestBreaks, ServerPlays, WritesWhole, after_feed, after_take, from_client}
use Rattle.theory_peers.specs.ServerStreams.{from_server}
use Rattle.theory_peers.specs.ServerStreams as plays
use Rattle.theory_peers.proofs.CallsOfServer.{calls_keep}
use Rattle.theory_peers.proofs.HeardRequests.{HearsWell, hears_cut, hears_fed}
use Rattle.theory_peers.proofs.PlayedCalls.{announced_inbox, announced_left, no_fault_well, reads_well, sent_inbox, sent_left}
use Rattle.theory_peers.proofs.PlaysOfServer.{ClientBroke, PlaysWell, broke_more, plays_on, records_piece}
use Rattle.theory_peers.proofs.ToldMessages.{tells_cut, tells_taken, tells_written}

-- ---- at first

nothing_judged : (limit : ℕ) (tables : List Interface) → judgements limit tables [] ≡ []
unfolding merged_within judged_after
nothing_judged limit tables = refl

nothing_taken : (tables : List Interface) (d : Direction) → (knowledge tables []).taken d ≡ 0
unfolding taken
nothing_taken tables ToServer = refl
nothing_taken tables ToClient = refl

begins_well : (limit : ℕ) (tables : List Interface) (sizes : Sizes) → sizes.limit.bytes ≡ limit
    → PlaysWell limit tables [] [] [] (new_state tables sizes)
unfolding cutting
begins_well limit tables sizes is =
    let none = nothing_judged limit tables in
    let start = λ (d : Direction). ap (λ (e : List Judged). (knowledge tables e).taken d) none ∙ nothing_taken tables d in
    let server = start ToServer in
    let client = start ToClient in
    record {
      asked = [];
      written = [];
      calls = subst (λ (e : List Judged). calls.ServerCalls limit tables e [] [] (new_state tables sizes)) (sym none)
          (calls.begun sizes);
      hears = record {
        same_limit = is;
        low = All-nil (λ (b : ℕ). b < 256);
        within = omega (arith, server);
        raw = [];
        spelled = tt;
        sound = refl;
        part = [];
        rest = refl;
        waits = refl;
        tokens = omega (arith, server);
        have = tt;
      };
      tells = record {
        to_client = tt;
        begun = [];
        all = refl;
        whole = tt;
        sound = refl;
        part = [];
        rest = refl;
        bytes = refl;
        have = 0;
        have_is = omega (arith, client);
        tokens = omega (arith, client);
        in_time = tt;
      };
    }

-- ---- all steps

abbrev BrokeOrPlays : ℕ → List Interface → List Piece → List Piece → List Piece → State → Type 0
BrokeOrPlays limit tables pieces arriving leaving state =
    ClientBroke limit tables pieces ⊎ PlaysWell limit tables pieces arriving leaving state

pub fewer_before : (limit : ℕ) (tables : List Interface) (pieces : List Piece) (piece : Piece) (b : ℕ)
    → suc (length (judgements limit tables (pieces ++ piece ∷ []))) < b
    → suc (length (judgements limit tables pieces)) < b
fewer_before limit tables pieces piece b h =
    let rest = after_front limit tables (λ d. stream_of d (pieces ++ piece ∷ [])) (judgements limit tables pieces)
    (completed limit pieces piece) in
    let l = ap length (messages_more limit tables pieces piece ∙ rest.1) in
    omega (arith, h, l, length-append (judgements limit tables pieces) rest.0)

pub within_greatest : (limit : ℕ) (tables : List Interface) (pieces arriving leaving : List Piece) (state : State)
    → ServerPlays limit tables pieces arriving leaving state → limit ≤ greatest_limit
within_greatest limit tables _ _ _ _ (plays.begins sizes is) =
    let most = sizes.limit.in_range.1 in omega (arith, most, is)
within_greatest limit tables _ _ _ _ (plays.hears {pieces} {arriving} {leaving} {state} p bytes tokens low) =
    within_greatest limit tables pieces arriving leaving state p
within_greatest limit tables _ _ _ _ (plays.cuts_arriving {pieces} {arriving} {leaving} {piece} {state} p first second c) =
    within_greatest limit tables pieces (piece ∷ arriving) leaving state p
within_greatest limit tables _ _ _ _ (plays.cuts_leaving {pieces} {arriving} {leaving} {piece} {state} p first second c) =
    within_greatest limit tables pieces arriving (piece ∷ leaving) state p
within_greatest limit tables _ _ _ _ (plays.feeds {pieces} {arriving} {leaving} {piece} {state} p tokens count) =
    within_greatest limit tables pieces (piece ∷ arriving) leaving state p
within_greatest limit tables _ _ _ _ (plays.takes {pieces} {arriving} {leaving} {state} p n there) =
    within_greatest limit tables pieces arriving leaving state p
within_greatest limit tables _ _ _ _ (plays.records {pieces} {arriving} {leaving} {piece} {state} p) =
    within_greatest limit tables pieces arriving (piece ∷ leaving) state p
within_greatest limit tables _ _ _ _ (plays.reads {pieces} {arriving} {leaving} {state} p sound lives found is news writes) =
    within_greatest limit tables pieces arriving leaving state p
within_greatest limit tables _ _ _ _ (plays.fails {pieces} {arriving} {leaving} {state} p sound lives fault is) =
    within_greatest limit tables pieces arriving leaving state p
within_greatest limit tables _ _ _ _
    (plays.sends {pieces} {arriving} {leaving} {state} p sound target opcode given new fits is news writes) =
    within_greatest limit tables pieces arriving leaving state p
within_greatest limit tables _ _ _ _ (plays.drops {pieces} {arriving} {leaving} {state} p object is news writes) =
    within_greatest limit tables pieces arriving leaving state p
within_greatest limit tables _ _ _ _ (plays.announces {pieces} {arriving} {leaving} {state} p sound count news writes) =
    within_greatest limit tables pieces arriving leaving state p
within_greatest limit tables _ _ _ _ (plays.adds {pieces} {arriving} {leaving} {state} p iface version word is) =
    within_greatest limit tables pieces arriving leaving state p
within_greatest limit tables _ _ _ _ (plays.withdraws {pieces} {arriving} {leaving} {state} p name is) =
    within_greatest limit tables pieces arriving leaving state p

-- what is well stays so, and what is broken stays broken
then_well : (limit : ℕ) (tables : List Interface) (pieces arriving leaving arriving' leaving' : List Piece)
    (state state' : State)
    → (PlaysWell limit tables pieces arriving leaving state → PlaysWell limit tables pieces arriving' leaving' state')
    → BrokeOrPlays limit tables pieces arriving leaving state
    → BrokeOrPlays limit tables pieces arriving' leaving' state'
then_well limit tables pieces arriving leaving arriving' leaving' state state' f (inl b) = inl b
then_well limit tables pieces arriving leaving arriving' leaving' state state' f (inr w) = inr (f w)

heard_more : (limit : ℕ) (tables : List Interface) (pieces arriving leaving : List Piece) (state : State)
    (bytes : List ℕ) (tokens : ℕ)
    → (PlaysWell limit tables pieces arriving leaving state
    → BrokeOrPlays limit tables (pieces ++ from_client bytes tokens ∷ []) (arriving ++ from_client bytes tokens ∷ []) leaving
    state)
    → BrokeOrPlays limit tables pieces arriving leaving state
    → BrokeOrPlays limit tables (pieces ++ from_client bytes tokens ∷ []) (arriving ++ from_client bytes tokens ∷ []) leaving
    state
heard_more limit tables pieces arriving leaving state bytes tokens f (inl b) =
    inl (broke_more limit tables pieces (from_client bytes tokens) b)
heard_more limit tables pieces arriving leaving state bytes tokens f (inr w) = f w

recorded_more : (limit : ℕ) (tables : List Interface) (pieces arriving leaving : List Piece) (piece : Piece)
    (state : State) → Valid tables → BrokeOrPlays limit tables pieces arriving (piece ∷ leaving) state
    → BrokeOrPlays limit tables (pieces ++ piece ∷ []) arriving leaving state
recorded_more limit tables pieces arriving leaving piece state valid (inl b) =
    inl (broke_more limit tables pieces piece b)
recorded_more limit tables pieces arriving leaving piece state valid (inr w) =
    inr (records_piece limit tables pieces arriving leaving piece state valid w)

failed_more : (limit : ℕ) (tables : List Interface) (pieces arriving leaving : List Piece) (state state' : State)
    → Valid tables → IsSoundServer state → (fault : Fault) → request state ≡ Err fault
    → BrokeOrPlays limit tables pieces arriving leaving state → BrokeOrPlays limit tables pieces arriving leaving state'
failed_more limit tables pieces arriving leaving state state' valid sound fault is (inl b) = inl b
failed_more limit tables pieces arriving leaving state state' valid sound fault is (inr w) =
    absurd (no_fault_well limit tables pieces arriving leaving state valid w sound fault is)

-- a call writes, and reads nothing
writes_well : (limit : ℕ) (tables : List Interface) (pieces arriving leaving : List Piece) (state after : State)
    (news : List QueuedMessage) (w : PlaysWell limit tables pieces arriving leaving state)
    → calls.ServerCalls limit tables (judgements limit tables pieces) w.asked (w.written ++ news) after
    → after.core.inbox ≡ state.core.inbox → after.core.outbox.left ≡ state.core.outbox.left
    → WritesWhole limit state news after → PlaysWell limit tables pieces arriving leaving after
writes_well limit tables pieces arriving leaving state after news w c inbox left writes =
    let e = judgements limit tables pieces in
    record {
      asked = w.asked;
      written = w.written ++ news;
      calls = c;
      hears = subst (λ (x : Arrived). HearsWell limit tables pieces arriving ((knowledge tables e).taken ToServer) w.asked x)
          (sym inbox) w.hears;
      tells = tells_written limit pieces leaving ((knowledge tables e).taken ToClient) w.written news state.core.outbox
          after.core.outbox left writes.appended writes.whole w.tells;
    }

pub broke_or_plays : (limit : ℕ) (tables : List Interface) (pieces arriving leaving : List Piece) (state : State)
    → Valid tables → ServerPlays limit tables pieces arriving leaving state
    → suc (length (judgements limit tables pieces)) < max_births
    → ClientBroke limit tables pieces ⊎ PlaysWell limit tables pieces arriving leaving state
broke_or_plays limit tables _ _ _ _ v (plays.begins sizes is) few = inr (begins_well limit tables sizes is)
broke_or_plays limit tables _ _ _ _ v (plays.hears {pieces} {arriving} {leaving} {state} p bytes tokens low) few =
    heard_more limit tables pieces arriving leaving state bytes tokens
    (λ w. plays_on limit tables pieces arriving leaving state bytes tokens v
    (within_greatest limit tables pieces arriving leaving state p) low w few)
    (broke_or_plays limit tables pieces arriving leaving state v p
    (fewer_before limit tables pieces (from_client bytes tokens) max_births few))
broke_or_plays limit tables _ _ _ _ v
    (plays.cuts_arriving {pieces} {arriving} {leaving} {piece} {state} p first second c) few =
    then_well limit tables pieces (piece ∷ arriving) leaving (first ∷ second ∷ arriving) leaving state state
    (λ w. record {
      asked = w.asked;
      written = w.written;
      calls = w.calls;
      hears = hears_cut limit tables pieces arriving piece first second
          ((knowledge tables (judgements limit tables pieces)).taken ToServer) w.asked state.core.inbox c w.hears;
      tells = w.tells;
    }) (broke_or_plays limit tables pieces (piece ∷ arriving) leaving state v p few)
broke_or_plays limit tables _ _ _ _ v
    (plays.cuts_leaving {pieces} {arriving} {leaving} {piece} {state} p first second c) few =
    then_well limit tables pieces arriving (piece ∷ leaving) arriving (first ∷ second ∷ leaving) state state
    (λ w. record {
      asked = w.asked;
      written = w.written;
      calls = w.calls;
      hears = w.hears;
      tells = tells_cut limit pieces leaving piece first second
          ((knowledge tables (judgements limit tables pieces)).taken ToClient) w.written state.core.outbox c w.tells;
    }) (broke_or_plays limit tables pieces arriving (piece ∷ leaving) state v p few)
broke_or_plays limit tables _ _ _ _ v (plays.feeds {pieces} {arriving} {leaving} {piece} {state} p tokens count) few =
    then_well limit tables pieces (piece ∷ arriving) leaving arriving leaving state (after_feed state piece.bytes tokens)
    (λ w. record {
      asked = w.asked;
      written = w.written;
      calls = calls.carries w.calls (after_feed state piece.bytes tokens).core.inbox state.core.outbox;
      hears = hears_fed limit tables pieces arriving piece
          ((knowledge tables (judgements limit tables pieces)).taken ToServer) w.asked state.core.inbox tokens count w.hears;
      tells = w.tells;
    }) (broke_or_plays limit tables pieces (piece ∷ arriving) leaving state v p few)
broke_or_plays limit tables _ _ _ _ v (plays.takes {pieces} {arriving} {leaving} {state} p n there) few =
    then_well limit tables pieces arriving leaving arriving (leaving ++ from_server state n ∷ []) state (after_take state n)
    (λ w. record {
      asked = w.asked;
      written = w.written;
      calls = calls.carries w.calls state.core.inbox (after_taking state.core.outbox n);
      hears = w.hears;
      tells = tells_taken limit pieces leaving (from_server state n)
          ((knowledge tables (judgements limit tables pieces)).taken ToClient) w.written state.core.outbox n there refl refl
          refl w.tells;
    }) (broke_or_plays limit tables pieces arriving leaving state v p few)
broke_or_plays limit tables _ _ _ _ v (plays.records {pieces} {arriving} {leaving} {piece} {state} p) few =
    recorded_more limit tables pieces arriving leaving piece state v
    (broke_or_plays limit tables pieces arriving (piece ∷ leaving) state v p
    (fewer_before limit tables pieces piece max_births few))
broke_or_plays limit tables _ _ _ _ v
    (plays.reads {pieces} {arriving} {leaving} {state} p sound lives found is news writes) few =
    then_well limit tables pieces arriving leaving arriving leaving state _
    (λ w. reads_well limit tables pieces arriving leaving state v w sound found is news writes)
    (broke_or_plays limit tables pieces arriving leaving state v p few)
broke_or_plays limit tables _ _ _ _ v (plays.fails {pieces} {arriving} {leaving} {state} p sound lives fault is) few =
    failed_more limit tables pieces arriving leaving state _ v sound fault is
    (broke_or_plays limit tables pieces arriving leaving state v p few)
broke_or_plays limit tables _ _ _ _ v
    (plays.sends {pieces} {arriving} {leaving} {state} p sound target opcode given new fits is news writes) few =
    let after = with_core state (after_send state.core event_side target opcode given) in
    let answer = checked state.core.outbox.limit.bytes state.core.tables event_side state.core.view target opcode given in
    then_well limit tables pieces arriving leaving arriving leaving state after
    (λ w. writes_well limit tables pieces arriving leaving state after news w
    (calls.sends w.calls sound target opcode given new fits is news writes.appended)
    (sent_inbox state.core target opcode given answer) (sent_left state.core target opcode given answer) writes)
    (broke_or_plays limit tables pieces arriving leaving state v p few)
broke_or_plays limit tables _ _ _ _ v (plays.drops {pieces} {arriving} {leaving} {state} p object is news writes) few =
    let after = with_core state (after_drop state.core object) in
    then_well limit tables pieces arriving leaving arriving leaving state after
    (λ w. writes_well limit tables pieces arriving leaving state after news w
    (calls.drops w.calls object is news writes.appended) refl refl writes)
    (broke_or_plays limit tables pieces arriving leaving state v p few)
broke_or_plays limit tables _ _ _ _ v (plays.announces {pieces} {arriving} {leaving} {state} p sound count news writes) few =
    then_well limit tables pieces arriving leaving arriving leaving state (after_announce state count)
    (λ w. writes_well limit tables pieces arriving leaving state (after_announce state count) news w
    (calls.announces w.calls sound count news writes.appended) (announced_inbox state count) (announced_left state count)
    writes) (broke_or_plays limit tables pieces arriving leaving state v p few)
broke_or_plays limit tables _ _ _ _ v (plays.adds {pieces} {arriving} {leaving} {state} p iface version word is) few =
    then_well limit tables pieces arriving leaving arriving leaving state _
    (λ w. record {
      asked = w.asked;
      written = w.written;
      calls = calls.adds w.calls iface version word is;
      hears = w.hears;
      tells = w.tells;
    }) (broke_or_plays limit tables pieces arriving leaving state v p few)
broke_or_plays limit tables _ _ _ _ v (plays.withdraws {pieces} {arriving} {leaving} {state} p name is) few =
    then_well limit tables pieces arriving leaving arriving leaving state _
    (λ w. record {
      asked = w.asked;
      written = w.written;
      calls = calls.withdraws w.calls name is;
      hears = w.hears;
      tells = w.tells;
    }) (broke_or_plays limit tables pieces arriving leaving state v p few)

-- ---- what a user reads

get_between : (xs ys : List Judged) (y : Judged) → slice_get (xs ++ y ∷ ys) (length xs) ≡ Some y
get_between [] ys y = refl
get_between (x ∷ xs) ys y = get_between xs ys y

pub no_faults : (ms : List Judged) → AllGoOn ms → (k : ℕ) → fault_of (slice_get ms k) ≡ None
no_faults [] a k = refl
no_faults (m ∷ ms) a zero = ap (λ (j : Judged). fault_of (Some j)) (a zero m refl).is
no_faults (m ∷ ms) a (suc k) = no_faults ms (λ i. a (suc i)) k

pub faultless : (b : Bool) (o : Option Fault) → o ≡ None → cond b o None ≡ None
faultless true o e = e
faultless false o e = refl

passes_one : (ms : List Judged) (m : Judged) → AllGoOn (m ∷ ms) → ends_session m ≡ false
passes_one ms m a = let g = a zero m refl in g.goes_on

examined_to : (ms others : List Judged) (fault : Fault) → AllGoOn ms → length ms < examined (ms ++ Err fault ∷ others)
examined_to [] others fault a = omega arith
examined_to (m ∷ ms) others fault a =
    let rest = examined_to ms others fault (λ i. a (suc i)) in
    let here = ap (λ (b : Bool). cond b 1 (suc (examined (ms ++ Err fault ∷ others)))) (passes_one ms m a) in
    omega (arith, rest, here)

module _ (limit : ℕ) (tables : List Interface) (pieces : List Piece) where
  abbrev session : Session
  session = session_of limit pieces

  pub broken_there : (b : ClientBroke limit tables pieces) → breaks tables session (length b.before) ≡ Some b.fault
  broken_there b =
      let ms = judgements limit tables pieces in
      let counted : length b.before < examined ms =
      subst (λ (l : List Judged). length b.before < examined l) (sym b.is)
      (examined_to b.before b.after b.fault b.passed) in
      let there : fault_of (slice_get ms (length b.before)) ≡ Some b.fault =
      ap fault_of (ap (λ (l : List Judged). slice_get l (length b.before)) b.is
      ∙ get_between b.before b.after (Err b.fault)) in
      ap (λ (t : Bool). cond t (fault_of (slice_get ms (length b.before))) None)
      (lt-ltb (length b.before) (examined ms) counted) ∙ there

  unbroken_before : (b : ClientBroke limit tables pieces) (k : ℕ) → k < length b.before
      → breaks tables session k ≡ None
  unbroken_before b k below =
      let ms = judgements limit tables pieces in
      faultless (nat_lt k (examined ms)) (fault_of (slice_get ms k))
      (ap fault_of (ap (λ (l : List Judged). slice_get l k) b.is
      ∙ get_front b.before (Err b.fault ∷ b.after) k below) ∙ no_faults b.before b.passed k)

  pub all_well : AllGoOn (judgements limit tables pieces) → IsLawful tables session
  all_well a k = faultless (nat_lt k (examined (judgements limit tables pieces))) _
      (no_faults (judgements limit tables pieces) a k)

  first_is_there : (direction : Direction) (index offset : ℕ) (fault : Fault)
      → (f : IsFirstBrokenMessage tables session direction index offset fault) → (b : ClientBroke limit tables pieces)
      → f.place ≡ length b.before
  first_is_there direction index offset fault f b = elim (cases_lt f.place (length b.before)) [
    | inl below ↦ (let broken = f.broken in let none = unbroken_before b f.place below in absurd (cc (broken, none)))
    | inr above ↦ elim (cases_lt (length b.before) f.place) [
      | inl later ↦ (let none = f.least (length b.before) later in let some = broken_there b in absurd (cc (none, some)))
      | inr same ↦ omega (arith, above, same)
    ]
  ]

  pub first_of_broken : (direction : Direction) (index offset : ℕ) (fault : Fault)
      → (f : IsFirstBrokenMessage tables session direction index offset fault) → ClientBroke limit tables pieces
      → direction ≡ ToServer
  first_of_broken direction index offset fault f b =
      let at = first_is_there direction index offset fault f b in
      let own : Some f.frame ≡ Some b.frame =
      sym f.stands ∙ ap (slice_get (merged limit pieces)) at ∙ b.there in
      let same : f.frame ≡ b.frame = cc own in
      f.direction_is ∙ ap (λ (x : FramedMessage). x.direction) same ∙ b.direction

  pub few_messages : suc (length (merged limit pieces)) < max_births
      → suc (length (judgements limit tables pieces)) < max_births
  few_messages few = let l = length_messages tables session in omega (arith, few, l)

  module _ (arriving leaving : List Piece) (state : State) (valid : Valid tables)
      (p : ServerPlays limit tables pieces arriving leaving state) (few : suc (length (merged limit pieces)) < max_births)
    where
      abbrev outcome : ClientBroke limit tables pieces ⊎ PlaysWell limit tables pieces arriving leaving state
      outcome = broke_or_plays limit tables pieces arriving leaving state valid p (few_messages few)

      well_goes_on : PlaysWell limit tables pieces arriving leaving state → AllGoOn (judgements limit tables pieces)
      well_goes_on w = calls_keep limit tables (judgements limit tables pieces) w.asked w.written state valid w.calls

      first_by_client : (direction : Direction) (index offset : ℕ) (fault : Fault)
          → IsFirstBrokenMessage tables session direction index offset fault
          → ClientBroke limit tables pieces ⊎ PlaysWell limit tables pieces arriving leaving state → direction ≡ ToServer
      first_by_client direction index offset fault f (inl b) = first_of_broken direction index offset fault f b
      first_by_client direction index offset fault f (inr w) =
          let none = all_well (well_goes_on w) f.place in
          let broken = f.broken in
          absurd (cc (none, broken))

      -- if the recording is broken, then first by the client
      pub first_is_clients : (direction : Direction) (index offset : ℕ) (fault : Fault)
          → IsFirstBrokenMessage tables session direction index offset fault → direction ≡ ToServer
      first_is_clients direction index offset fault f = first_by_client direction index offset fault f outcome

      keeps_by : NoRequestBreaks tables session
          → ClientBroke limit tables pieces ⊎ PlaysWell limit tables pieces arriving leaving state
          → PlaysWell limit tables pieces arriving leaving state
      keeps_by rules (inl b) =
          (let none = rules (length b.before) b.frame b.there b.direction in let some = broken_there b in
          absurd (cc (none, some)))
      keeps_by rules (inr w) = w

      -- while the client keeps the rules, all that is recorded is lawful, and the server meets no fault
      pub stays_lawful : NoRequestBreaks tables session → IsLawful tables session
      stays_lawful rules = all_well (well_goes_on (keeps_by rules outcome))

      pub meets_no_fault : NoRequestBreaks tables session → IsSoundServer state → (fault : Fault)
          → request state ≡ Err fault → ⊥
      meets_no_fault rules sound fault is =
          no_fault_well limit tables pieces arriving leaving state valid (keeps_by rules outcome) sound fault is
