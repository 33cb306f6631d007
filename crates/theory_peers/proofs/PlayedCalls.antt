-- Each step of a run of a server by bytes is a call, or its client broke a rule.
use Rattle.std.proofs.Common.{◌≡◌, ℕ, ◌+◌, Bool, true, false, cond, List, [], ◌∷◌}
use Rattle.std.proofs.Common.{◌++◌, drop, length, take, refl, sym, ap, subst, ◌∙◌, arith}
use Rattle.std.specs.Prelude.{◌&&◌, not}
use Rattle.std.specs.declared.option.Option.TheVariants.{None, Some}
use Rattle.std.specs.declared.result.Result.{Result}
use Rattle.std.specs.declared.result.Result.TheVariants.{Err, Ok}
use Rattle.std.proofs.lemmas.List.{take_at}
use Rattle.wl_wire.specs.declared.header.Header.{Header}
use Rattle.wl_wire.specs.Word.{header_at}
use Rattle.wl_sigs.specs.Side.TheVariants.{Event as event_side, Request}
use Rattle.wl_sigs.specs.Tables.{Interface, MessageSignature, descriptors, signature_at}
use Rattle.wl_sigs.specs.Valid.{Valid}
use Rattle.wl_message.specs.Arrived.{Arrived, in_front, without_first}
use Rattle.wl_message.specs.Cut.{Front, More, Bad, Whole}
use Rattle.wl_message.specs.Outgoing.{QueuedMessage}
use Rattle.wl_object_map.specs.declared.object.Object.{Object}
use Rattle.wl_objects.specs.declared.error.Fault.{Fault}
use Rattle.wl_objects.specs.declared.error.Fault.TheVariants.{BadBind}
use Rattle.wl_objects.specs.declared.error.SendError.{SendError}
use Rattle.wl_objects.specs.Messages.{Received, is_bind, received}
use Rattle.wl_objects.specs.Writing.{Given}
use Rattle.wl_connection.specs.Core.{Core}
use Rattle.wl_connection.specs.Receiving.{Found, found_at, found_in, header_of, reader_in, takes}
use Rattle.wl_connection.specs.Sending.{after_checked, with_following, with_sent}
use Rattle.wl_server.specs.Announcing.{Due, after_announce, owed, owed_opcode, values_of, with_dues}
use Rattle.wl_server.specs.Requests.{is_good_bind, request, state_past, unless_bad_bind}
use Rattle.wl_server.specs.State.{State}
use Rattle.wl_recording.specs.declared.piece.Direction.{Direction}
use Rattle.wl_recording.specs.declared.piece.Direction.TheVariants.{ToServer, ToClient}
use Rattle.wl_recording.specs.Piece.{Piece}
use Rattle.wl_check.specs.Places.{taken}
use Rattle.wl_check.specs.Session.{Judged}
use Rattle.theory_connection.specs.Meant.{Known, Message}
use Rattle.theory_connection.specs.World.{Each}
use Rattle.theory_connection.specs.Flight.{server_rows}
use Rattle.theory_connection.proofs.Announces.{only_sent}
use Rattle.theory_recording.specs.Follows.{knowledge}
use Rattle.theory_recording.specs.Linked.{judgements}
use Rattle.theory_peers.specs.FollowsServer.{FollowsServer}
use Rattle.theory_peers.specs.ReadByServer.{IsSpelledBy}
use Rattle.theory_peers.specs.ServerCalls as calls
use Rattle.theory_peers.specs.ServerCalls.{IsSoundServer, ServerCalls}
use Rattle.theory_peers.specs.ServerStreams.{WritesWhole}
use Rattle.theory_peers.proofs.CallsOfServer.{calls_go_on, calls_read}
use Rattle.theory_peers.proofs.HeardRequests.{HearsFirst, HearsWell, header_front, hears_first}
use Rattle.theory_peers.proofs.HeardRequests.{hears_no_bad, hears_none}
use Rattle.theory_peers.proofs.PlaysOfServer.{PlaysWell}
use Rattle.theory_peers.proofs.RunOfServer.{run_follows}
use Rattle.theory_peers.proofs.ServerReads.{read_by_server}
use Rattle.theory_peers.proofs.ToldMessages.{TellsWell, tells_written}

-- ---- what calls leave of the inbox and of the begun message

follow_inbox : (b : Bool) (id : ℕ) (core : Core) → (with_following b id core).inbox ≡ core.inbox
follow_inbox true id core = refl
follow_inbox false id core = refl

follow_left : (b : Bool) (id : ℕ) (core : Core) → (with_following b id core).outbox.left ≡ core.outbox.left
follow_left true id core = refl
follow_left false id core = refl

pub sent_inbox : (core : Core) (target : Object) (opcode : ℕ) (given : List Given) (r : Result MessageSignature SendError)
    → (after_checked core event_side target opcode given r).inbox ≡ core.inbox
sent_inbox core target opcode given (Err why) = refl
sent_inbox core target opcode given (Ok signature) = follow_inbox _ _ _

pub sent_left : (core : Core) (target : Object) (opcode : ℕ) (given : List Given) (r : Result MessageSignature SendError)
    → (after_checked core event_side target opcode given r).outbox.left ≡ core.outbox.left
sent_left core target opcode given (Err why) = refl
sent_left core target opcode given (Ok signature) = follow_left _ _ _

dues_left : (core : Core) (dues : List Due) → (with_dues core dues).outbox.left ≡ core.outbox.left
dues_left core [] = refl
dues_left core (d ∷ dues) =
    dues_left (with_sent core d.object.id (owed_opcode d.owing) (values_of core.tables d.owing) []) dues

pub announced_inbox : (state : State) (count : ℕ) → (after_announce state count).core.inbox ≡ state.core.inbox
announced_inbox state count = ap (λ (c : Core). c.inbox) (only_sent state.core (take count (owed state)))

pub announced_left : (state : State) (count : ℕ)
    → (after_announce state count).core.outbox.left ≡ state.core.outbox.left
announced_left state count = dues_left state.core (take count (owed state))

read_inbox : (state : State) (found : Found)
    → (state_past state found).core.inbox ≡ without_first state.core.inbox found.size (takes found.message)
read_inbox state found = follow_inbox _ _ _

read_left : (state : State) (found : Found) → (state_past state found).core.outbox.left ≡ state.core.outbox.left
read_left state found = follow_left _ _ _

-- ---- what a read finds

unless_bind : (state : State) (f g : Found) (b : Bool)
    → cond b (Err BadBind) (Ok (Some f)) ≡ Ok (Some g) → f ≡ g
unless_bind state f g true h = absurd (cc h)
unless_bind state f g false h = cc h

found_as : (state : State) (n opcode : ℕ) (r : Result Received Fault) (message : Received) (found : Found)
    → r ≡ Ok message → unless_bad_bind state (found_in n opcode r) ≡ Ok (Some found)
    → (found.size ≡ n) × (found.message ≡ message)
found_as state n opcode (Err fault) message found is h = absurd (cc is)
found_as state n opcode (Ok own) message found is h =
    let same : own ≡ message = cc is in
    let f : Found = record { size = n; opcode = opcode; message = own } in
    let found_is : f ≡ found = unless_bind state f found
    (is_bind Request own.entry.iface opcode && not (is_good_bind state own.values)) h in
    (sym (ap (λ (x : Found). x.size) found_is), sym (ap (λ (x : Found). x.message) found_is) ∙ same)

more_finds : (state : State) (f : Front) (found : Found) → in_front state.core.inbox ≡ f → f ≡ More
    → request state ≡ Ok (Some found) → ⊥
more_finds state f found front more is =
    let none : request state ≡ Ok None = ap (λ (x : Front). unless_bad_bind state (found_at state.core Request x)) (front ∙ more) in
    cc (none, is)

bad_finds : (state : State) (n : ℕ) (found : Found) → in_front state.core.inbox ≡ Bad n
    → request state ≡ Ok (Some found) → ⊥
bad_finds state n found front is =
    let none = ap (λ (x : Front). unless_bad_bind state (found_at state.core Request x)) front in
    cc (none, is)

-- ---- the request in front

module _ (limit : ℕ) (tables : List Interface) (pieces arriving leaving : List Piece) (state : State) (valid : Valid tables)
  where
    abbrev e : List Judged
    e = judgements limit tables pieces

    abbrev taken_by : Direction → ℕ
    taken_by d = (knowledge tables e).taken d

    abbrev Front_of : Message Known → List (Message Known) → ℕ → Type 0
    Front_of m asked n = HearsFirst limit tables pieces arriving (taken_by ToServer) state.core.inbox m asked n

    -- its bytes spell the first request that was recorded and not read yet
    spelled_in_front : (m : Message Known) (asked : List (Message Known)) (written : List QueuedMessage) (n : ℕ)
        → ServerCalls limit tables e (m ∷ asked) written state → Front_of m asked n
        → IsSpelledBy state.core.tables m (header_of state.core.inbox.bytes) (drop 8 (take n state.core.inbox.bytes))
        (length state.core.inbox.tokens)
    spelled_in_front m asked written n c f =
        let g = calls_go_on limit tables e (m ∷ asked) written state valid c in
        let sp = f.spells.spelled in
        let exact = f.spells.exact in
        let enough = f.enough in
        let size = f.spells.whole.size.header in
        let header : header_at f.first.bytes ≡ header_of state.core.inbox.bytes =
        sym (ap header_at f.bytes ∙ header_front f.first.bytes f.others size) in
        let body : drop 8 f.first.bytes ≡ drop 8 (take n state.core.inbox.bytes) =
        ap (drop 8) (sym (ap (take n) f.bytes ∙ take_at f.first.bytes f.others n (sym f.size))) in
        subst (λ (t : List Interface). IsSpelledBy t m (header_of state.core.inbox.bytes)
        (drop 8 (take n state.core.inbox.bytes)) (length state.core.inbox.tokens)) (sym g.tables_are)
        (subst (λ (h : Header). IsSpelledBy tables m h (drop 8 (take n state.core.inbox.bytes))
        (length state.core.inbox.tokens)) header
        (subst (λ (b : List ℕ). IsSpelledBy tables m (header_at f.first.bytes) b (length state.core.inbox.tokens)) body
        (record {
          object = sp.object;
          opcode = sp.opcode;
          signature = sp.signature;
          there = sp.there;
          spelled = sp.spelled;
          enough = omega (arith, exact, enough);
        })))

    -- the server takes its bytes and its tokens
    takes_front : (m : Message Known) (asked : List (Message Known)) (written : List QueuedMessage) (n : ℕ)
        → ServerCalls limit tables e (m ∷ asked) written state → IsSoundServer state
        → in_front state.core.inbox ≡ Whole n → (f : Front_of m asked n)
        → (found : Found) → request state ≡ Ok (Some found)
        → (found.size ≡ n) × (takes found.message ≡ length f.first.tokens)
    takes_front m asked written n c sound front f found is =
        let g = calls_go_on limit tables e (m ∷ asked) written state valid c in
        let own = sym g.tables_are in
        let bytes = state.core.inbox.bytes in
        let follows = run_follows limit tables e (m ∷ asked) g.told (server_rows state.core.view) valid g.run.0 in
        let r = read_by_server state.core.tables e m asked g.told state.core.view (header_of bytes) (drop 8 (take n bytes))
        (length state.core.inbox.tokens) (subst Valid own valid) sound.objects
        (subst (λ (t : List Interface). FollowsServer t e (m ∷ asked) g.told (server_rows state.core.view)) own follows)
        (spelled_in_front m asked written n c f) in
        let at : unless_bad_bind state (found_in n (header_of bytes).opcode (received state.core.tables Request
        (reader_in state.core Request) (header_of bytes) (drop 8 (take n bytes)) (length state.core.inbox.tokens)))
        ≡ Ok (Some found) =
        sym (ap (λ (x : Front). unless_bad_bind state (found_at state.core Request x)) front) ∙ is in
        let both = found_as state n (header_of bytes).opcode (received state.core.tables Request
        (reader_in state.core Request) (header_of bytes) (drop 8 (take n bytes)) (length state.core.inbox.tokens)) _ found
        r.is at in
        let sp = f.spells.spelled in
        let signed = sym r.signed
        ∙ ap (λ (t : List Interface). signature_at t m.target.born.iface.0 Request m.opcode) g.tables_are ∙ sp.there in
        let same : r.signature ≡ sp.signature = cc signed in (
          both.0,
          ap (λ (x : Received). descriptors x.signature.kinds) both.1
              ∙ ap (λ (s : MessageSignature). descriptors s.kinds) same ∙ f.spells.exact,
        )

    read_one : (asked : List (Message Known)) (written : List QueuedMessage) (n : ℕ)
        → ServerCalls limit tables e asked written state
        → HearsWell limit tables pieces arriving (taken_by ToServer) asked state.core.inbox
        → TellsWell limit pieces leaving (taken_by ToClient) written state.core.outbox → IsSoundServer state
        → in_front state.core.inbox ≡ Whole n → (found : Found) → request state ≡ Ok (Some found)
        → (news : List QueuedMessage) → WritesWhole limit state news (state_past state found)
        → PlaysWell limit tables pieces arriving leaving (state_past state found)
    read_one [] written n c h t sound front found is news writes =
        absurd (hears_none limit tables pieces arriving (taken_by ToServer) state.core.inbox n h front)
    read_one (m ∷ asked) written n c h t sound front found is news writes =
        let f = hears_first limit tables pieces arriving (taken_by ToServer) state.core.inbox m asked n h front in
        let both = takes_front m asked written n c sound front f found is in
        let inbox : without_first state.core.inbox n (length f.first.tokens) ≡ (state_past state found).core.inbox =
        sym (read_inbox state found ∙ (λ i. without_first state.core.inbox (both.0 i) (both.1 i))) in
        record {
          asked = asked;
          written = written ++ news;
          calls = calls.reads c sound n front (spelled_in_front m asked written n c f) found is news writes.appended;
          hears = subst (λ (x : Arrived). HearsWell limit tables pieces arriving (taken_by ToServer) asked x) inbox f.stays;
          tells = tells_written limit pieces leaving (taken_by ToClient) written news state.core.outbox
              (state_past state found).core.outbox (read_left state found) writes.appended writes.whole t;
        }

    reads_by : PlaysWell limit tables pieces arriving leaving state → IsSoundServer state → (f : Front)
        → in_front state.core.inbox ≡ f → (found : Found) → request state ≡ Ok (Some found)
        → (news : List QueuedMessage) → WritesWhole limit state news (state_past state found)
        → PlaysWell limit tables pieces arriving leaving (state_past state found)
    reads_by w sound More front found is news writes = absurd (more_finds state More found front refl is)
    reads_by w sound (Bad n) front found is news writes = absurd (bad_finds state n found front is)
    reads_by w sound (Whole n) front found is news writes =
        read_one w.asked w.written n w.calls w.hears w.tells sound front found is news writes

    -- the server reads a request
    pub reads_well : PlaysWell limit tables pieces arriving leaving state → IsSoundServer state
        → (found : Found) → request state ≡ Ok (Some found)
        → (news : List QueuedMessage) → WritesWhole limit state news (state_past state found)
        → PlaysWell limit tables pieces arriving leaving (state_past state found)
    reads_well w sound found is news writes =
        reads_by w sound (in_front state.core.inbox) refl found is news writes

    whole_fault : (asked : List (Message Known)) (written : List QueuedMessage) (n : ℕ)
        → ServerCalls limit tables e asked written state
        → HearsWell limit tables pieces arriving (taken_by ToServer) asked state.core.inbox → IsSoundServer state
        → in_front state.core.inbox ≡ Whole n → (fault : Fault) → request state ≡ Err fault → ⊥
    whole_fault [] written n c h sound front fault is =
        hears_none limit tables pieces arriving (taken_by ToServer) state.core.inbox n h front
    whole_fault (m ∷ asked) written n c h sound front fault is =
        let f = hears_first limit tables pieces arriving (taken_by ToServer) state.core.inbox m asked n h front in
        let r = calls_read limit tables e m asked written state n valid c sound.objects front
        (spelled_in_front m asked written n c f) in
        let finds = r.finds in
        cc (finds, is)

    fault_by : PlaysWell limit tables pieces arriving leaving state → IsSoundServer state → (f : Front)
        → in_front state.core.inbox ≡ f → (fault : Fault) → request state ≡ Err fault → ⊥
    fault_by w sound More front fault is =
        let none : request state ≡ Ok None =
        ap (λ (x : Front). unless_bad_bind state (found_at state.core Request x)) front in
        cc (none, is)
    fault_by w sound (Bad n) front fault is =
        hears_no_bad limit tables pieces arriving (taken_by ToServer) state.core.inbox n w.asked w.hears front
    fault_by w sound (Whole n) front fault is =
        whole_fault w.asked w.written n w.calls w.hears sound front fault is

    -- it meets no fault
    pub no_fault_well : PlaysWell limit tables pieces arriving leaving state → IsSoundServer state
        → (fault : Fault) → request state ≡ Err fault → ⊥
    no_fault_well w sound fault is = fault_by w sound (in_front state.core.inbox) refl fault is
