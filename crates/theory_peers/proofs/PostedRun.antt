-- After a posted error, too, the first recorded message that breaks a rule is the client's.
use Rattle.std.proofs.Common.{◌≡◌, ◌⊎◌, inl, inr, ℕ, zero, suc, ◌+◌, ◌<◌, ◌≤◌, ◌^◌, Bool, true, cond, List, []}
use Rattle.std.proofs.Common.{◌∷◌, ◌++◌, length, nat_lt, slice_get, refl, sym, ap, ◌∙◌, arith}
use Rattle.std.specs.List.{All}
use Rattle.std.specs.declared.option.Option.TheVariants.{None, Some}
use Rattle.std.specs.declared.result.Result.TheVariants.{Ok}
use Rattle.std.proofs.lemmas.Bool.{cases_lt, le-ltb}
use Rattle.std.proofs.lemmas.List.{append_assoc, append_cancel_left}
use Rattle.wl_sigs.specs.Tables.{Interface}
use Rattle.wl_sigs.specs.Valid.{Valid}
use Rattle.wl_message.specs.Cut.{greatest_limit}
use Rattle.wl_message.specs.Outgoing.{QueuedMessage, waiting_bytes}
use Rattle.wl_object_map.specs.View.{max_births}
use Rattle.wl_objects.specs.declared.error.Fault.{Fault}
use Rattle.wl_objects.specs.declared.error.SendError.TheVariants as refusals
use Rattle.wl_server.specs.Calls.{after_error, is_error_text}
use Rattle.wl_server.specs.State.{State, with_core}
use Rattle.wl_recording.specs.declared.piece.Direction.{Direction}
use Rattle.wl_recording.specs.declared.piece.Direction.TheVariants.{ToServer, ToClient}
use Rattle.wl_recording.specs.Piece.{Piece}
use Rattle.wl_check.specs.Changes.{Call}
use Rattle.wl_check.specs.Merged.{completed, merged, piece_tokens, same_direction, stream_of}
use Rattle.wl_check.specs.Session.{IsFirstBrokenMessage, IsLawful, Judged, Session, breaks, ends_session, examined, fault_of}
use Rattle.wl_check.specs.Session.{session_of}
use Rattle.wl_check.proofs.JudgedByPlaces.{after_front}
use Rattle.wl_check.proofs.LongerRecording.{messages_more}
use Rattle.theory_recording.specs.Follows.{AllGoOn, knowledge}
use Rattle.theory_recording.specs.Linked.{judgements}
use Rattle.theory_peers.specs.ServerEnding.{ServerEnds}
use Rattle.theory_peers.specs.ServerEnding as ends
use Rattle.theory_peers.specs.ServerStreams.{IsCutInTwo, NoRequestBreaks, WritesWhole, after_take, from_client}
use Rattle.theory_peers.specs.ServerStreams.{from_server}
use Rattle.theory_peers.proofs.CallsOfServer.{calls_keep}
use Rattle.theory_peers.proofs.PlaysOfServer.{CallsHear, ClientBroke, PlaysWell, TellsOn, broke_more, hears_piece, hears_still}
use Rattle.theory_peers.proofs.PlaysOfServer.{tells_on, tells_still}
use Rattle.theory_peers.proofs.PostedError.{LeavesError, error_keeps_each, error_sent, may_post}
use Rattle.theory_peers.proofs.PostedError as errors
use Rattle.theory_peers.proofs.RunByBytes.{all_well, broke_or_plays, broken_there, faultless, fewer_before, few_messages}
use Rattle.theory_peers.proofs.RunByBytes.{first_of_broken, within_greatest}
use Rattle.theory_peers.proofs.ToldMessages.{TellsWell, tells_cut, tells_taken, tells_written}

-- the error is on its way, or is recorded, behind all that the server wrote before it
pub record ErrorOnWay (limit : ℕ) (tables : List Interface) (pieces leaving : List Piece) (state : State) : Type 0 where
  pub id : ℕ
  pub code : ℕ
  pub text : List ℕ
  pub word : id < 2 ^ 32
  pub code_word : code < 2 ^ 32
  pub fits : is_error_text text ≡ true
  pub arriving : List Piece
  pub posting : State
  pub before : List QueuedMessage
  pub hears : CallsHear limit tables pieces arriving before posting
  pub all : List QueuedMessage
  pub all_is : all ≡ before ++ error_sent id code text ∷ []
  pub tells : TellsWell limit pieces leaving ((knowledge tables (judgements limit tables pieces)).taken ToClient) all
      state.core.outbox

-- the error is recorded, all before it keeps all rules, and nothing behind it is examined
pub record ErrorRecorded (limit : ℕ) (tables : List Interface) (pieces : List Piece) : Type 0 where
  pub before : List Judged
  pub call : Call
  pub after : List Judged
  pub is : judgements limit tables pieces ≡ before ++ Ok call ∷ after
  pub passed : AllGoOn before
  pub ends : ends_session (Ok call) ≡ true

abbrev pub BrokeOrEnds : ℕ → List Interface → List Piece → List Piece → State → Type 0
BrokeOrEnds limit tables pieces leaving state =
    ClientBroke limit tables pieces ⊎ (ErrorOnWay limit tables pieces leaving state ⊎ ErrorRecorded limit tables pieces)

error_still : (limit : ℕ) (tables : List Interface) (pieces : List Piece) (piece : Piece)
    → ErrorRecorded limit tables pieces → ErrorRecorded limit tables (pieces ++ piece ∷ [])
error_still limit tables pieces piece r =
    let rest = after_front limit tables (λ d. stream_of d (pieces ++ piece ∷ [])) (judgements limit tables pieces)
    (completed limit pieces piece) in
    record {
      before = r.before;
      call = r.call;
      after = r.after ++ rest.0;
      is = messages_more limit tables pieces piece ∙ rest.1 ∙ ap (λ (l : List Judged). l ++ rest.0) r.is
          ∙ append_assoc r.before (Ok r.call ∷ r.after) rest.0;
      passed = r.passed;
      ends = r.ends;
    }

-- ---- the post

posted_now : (limit : ℕ) (tables : List Interface) (pieces arriving leaving : List Piece) (state : State)
    (id code : ℕ) (text : List ℕ) (word : id < 2 ^ 32) (code_word : code < 2 ^ 32) (fits : is_error_text text ≡ true)
    (after : State) (news : List QueuedMessage) → after.core.outbox.left ≡ state.core.outbox.left
    → after.core.outbox.messages ≡ state.core.outbox.messages ++ error_sent id code text ∷ []
    → WritesWhole limit state news after
    → PlaysWell limit tables pieces arriving leaving state → ErrorOnWay limit tables pieces leaving after
posted_now limit tables pieces arriving leaving state id code text word code_word fits after news left messages writes w =
    record {
      id = id;
      code = code;
      text = text;
      word = word;
      code_word = code_word;
      fits = fits;
      arriving = arriving;
      posting = state;
      before = w.written;
      hears = record { asked = w.asked; calls = w.calls; hears = w.hears };
      all = w.written ++ news;
      all_is = ap (λ (l : List QueuedMessage). w.written ++ l)
          (append_cancel_left state.core.outbox.messages news _ (sym writes.appended ∙ messages));
      tells = tells_written limit pieces leaving ((knowledge tables (judgements limit tables pieces)).taken ToClient)
          w.written news state.core.outbox after.core.outbox left writes.appended writes.whole w.tells;
    }

-- ---- each step

on_way_cut : (limit : ℕ) (tables : List Interface) (pieces leaving : List Piece) (piece first second : Piece)
    (state : State) → IsCutInTwo piece first second → BrokeOrEnds limit tables pieces (piece ∷ leaving) state
    → BrokeOrEnds limit tables pieces (first ∷ second ∷ leaving) state
on_way_cut limit tables pieces leaving piece first second state c (inl b) = inl b
on_way_cut limit tables pieces leaving piece first second state c (inr (inr r)) = inr (inr r)
on_way_cut limit tables pieces leaving piece first second state c (inr (inl o)) = inr (inl (record {
  id = o.id;
  code = o.code;
  text = o.text;
  word = o.word;
  code_word = o.code_word;
  fits = o.fits;
  arriving = o.arriving;
  posting = o.posting;
  before = o.before;
  hears = o.hears;
  all = o.all;
  all_is = o.all_is;
  tells = tells_cut limit pieces leaving piece first second
      ((knowledge tables (judgements limit tables pieces)).taken ToClient) o.all state.core.outbox c o.tells;
}))

on_way_taken : (limit : ℕ) (tables : List Interface) (pieces leaving : List Piece) (state : State) (n : ℕ)
    → n ≤ length (waiting_bytes state.core.outbox) → BrokeOrEnds limit tables pieces leaving state
    → BrokeOrEnds limit tables pieces (leaving ++ from_server state n ∷ []) (after_take state n)
on_way_taken limit tables pieces leaving state n there (inl b) = inl b
on_way_taken limit tables pieces leaving state n there (inr (inr r)) = inr (inr r)
on_way_taken limit tables pieces leaving state n there (inr (inl o)) = inr (inl (record {
  id = o.id;
  code = o.code;
  text = o.text;
  word = o.word;
  code_word = o.code_word;
  fits = o.fits;
  arriving = o.arriving;
  posting = o.posting;
  before = o.before;
  hears = o.hears;
  all = o.all;
  all_is = o.all_is;
  tells = tells_taken limit pieces leaving (from_server state n)
      ((knowledge tables (judgements limit tables pieces)).taken ToClient) o.all state.core.outbox n there refl refl refl
      o.tells;
}))

-- the client still writes
heard_by : (limit : ℕ) (tables : List Interface) (pieces leaving : List Piece) (state : State) (bytes : List ℕ)
    (tokens : ℕ) (o : ErrorOnWay limit tables pieces leaving state)
    → ClientBroke limit tables (pieces ++ from_client bytes tokens ∷ [])
    ⊎ (CallsHear limit tables (pieces ++ from_client bytes tokens ∷ []) (o.arriving ++ from_client bytes tokens ∷ []) o.before
    o.posting
    × ((knowledge tables (judgements limit tables (pieces ++ from_client bytes tokens ∷ []))).taken ToClient
    ≡ (knowledge tables (judgements limit tables pieces)).taken ToClient))
    → BrokeOrEnds limit tables (pieces ++ from_client bytes tokens ∷ []) leaving state
heard_by limit tables pieces leaving state bytes tokens o (inl b) = inl b
heard_by limit tables pieces leaving state bytes tokens o (inr h) = inr (inl (record {
  id = o.id;
  code = o.code;
  text = o.text;
  word = o.word;
  code_word = o.code_word;
  fits = o.fits;
  arriving = o.arriving ++ from_client bytes tokens ∷ [];
  posting = o.posting;
  before = o.before;
  hears = h.0;
  all = o.all;
  all_is = o.all_is;
  tells = tells_still limit tables pieces (from_client bytes tokens) leaving o.all state.core.outbox
      ((knowledge tables (judgements limit tables pieces)).taken ToClient)
      ((knowledge tables (judgements limit tables (pieces ++ from_client bytes tokens ∷ []))).taken ToClient) refl h.1
      o.tells;
}))

on_way_heard : (limit : ℕ) (tables : List Interface) (pieces leaving : List Piece) (state : State) (bytes : List ℕ)
    (tokens : ℕ) → Valid tables → limit ≤ greatest_limit → All (λ b. b < 256) bytes
    → suc (length (judgements limit tables (pieces ++ from_client bytes tokens ∷ []))) < max_births
    → BrokeOrEnds limit tables pieces leaving state
    → BrokeOrEnds limit tables (pieces ++ from_client bytes tokens ∷ []) leaving state
on_way_heard limit tables pieces leaving state bytes tokens valid small low few (inl b) =
    inl (broke_more limit tables pieces (from_client bytes tokens) b)
on_way_heard limit tables pieces leaving state bytes tokens valid small low few (inr (inr r)) =
    inr (inr (error_still limit tables pieces (from_client bytes tokens) r))
on_way_heard limit tables pieces leaving state bytes tokens valid small low few (inr (inl o)) =
    heard_by limit tables pieces leaving state bytes tokens o
    (hears_piece limit tables pieces o.arriving o.posting bytes tokens valid small low o.before o.hears few)

-- what the server gave out is recorded
module _ (limit : ℕ) (tables : List Interface) (pieces leaving : List Piece) (piece : Piece) (state : State)
    (valid : Valid tables) (o : ErrorOnWay limit tables pieces (piece ∷ leaving) state) where
  abbrev with_it : List Piece
  with_it = pieces ++ piece ∷ []

  abbrev streams_with : Direction → List ℕ
  streams_with d = stream_of d with_it

  abbrev Leaves : List Judged → List QueuedMessage → Type 0
  Leaves = LeavesError limit tables valid o.id o.code o.text o.word o.code_word o.fits streams_with
      (piece_tokens ToClient with_it) o.hears.asked o.posting

  abbrev RecordsOn : Type 0
  RecordsOn = TellsOn limit tables pieces leaving piece o.all state.core.outbox Leaves o.tells
      (errors.going o.before o.all_is o.hears.calls)

  recorded_by : (t : RecordsOn) → Leaves (judgements limit tables with_it) t.now_written
      → BrokeOrEnds limit tables with_it leaving state
  recorded_by t (errors.over none e) = inr (inr (record {
    before = e.before;
    call = e.call;
    after = [];
    is = e.is;
    passed = e.passed;
    ends = e.ends;
  }))
  recorded_by t (errors.going before is c) = inr (inl (record {
    id = o.id;
    code = o.code;
    text = o.text;
    word = o.word;
    code_word = o.code_word;
    fits = o.fits;
    arriving = o.arriving;
    posting = o.posting;
    before = before;
    hears = record {
      asked = o.hears.asked;
      calls = c;
      hears = hears_still limit tables pieces piece o.arriving o.hears.asked o.posting.core.inbox
          ((knowledge tables (judgements limit tables pieces)).taken ToServer)
          ((knowledge tables (judgements limit tables with_it)).taken ToServer)
          (ap (λ (d : Direction). same_direction d ToServer) o.tells.to_client.0) t.other o.hears.hears;
    };
    all = t.now_written;
    all_is = is;
    tells = t.still_tells;
  }))

  on_way_recorded : BrokeOrEnds limit tables with_it leaving state
  on_way_recorded =
      let t = tells_on limit tables pieces leaving piece o.all state.core.outbox Leaves o.tells
      (errors.going o.before o.all_is o.hears.calls)
      (error_keeps_each limit tables valid o.id o.code o.text o.word o.code_word o.fits streams_with
      (piece_tokens ToClient with_it) o.hears.asked o.posting) in
      recorded_by t t.still_holds

recorded_after : (limit : ℕ) (tables : List Interface) (pieces leaving : List Piece) (piece : Piece) (state : State)
    → Valid tables → BrokeOrEnds limit tables pieces (piece ∷ leaving) state
    → BrokeOrEnds limit tables (pieces ++ piece ∷ []) leaving state
recorded_after limit tables pieces leaving piece state valid (inl b) = inl (broke_more limit tables pieces piece b)
recorded_after limit tables pieces leaving piece state valid (inr (inr r)) =
    inr (inr (error_still limit tables pieces piece r))
recorded_after limit tables pieces leaving piece state valid (inr (inl o)) =
    on_way_recorded limit tables pieces leaving piece state valid o

-- ---- all steps

posts_from : (limit : ℕ) (tables : List Interface) (pieces arriving leaving : List Piece) (state after : State)
    → (PlaysWell limit tables pieces arriving leaving state → ErrorOnWay limit tables pieces leaving after)
    → ClientBroke limit tables pieces ⊎ PlaysWell limit tables pieces arriving leaving state
    → BrokeOrEnds limit tables pieces leaving after
posts_from limit tables pieces arriving leaving state after f (inl b) = inl b
posts_from limit tables pieces arriving leaving state after f (inr w) = inr (inl (f w))

small_limit : (limit : ℕ) (tables : List Interface) (pieces leaving : List Piece) (state : State)
    → ServerEnds limit tables pieces leaving state → limit ≤ greatest_limit
small_limit limit tables _ _ _
    (ends.posts {pieces} {arriving} {leaving} {state} p sound object code text word is news writes) =
    within_greatest limit tables pieces arriving leaving state p
small_limit limit tables _ _ _ (ends.hears {pieces} {leaving} {state} p bytes tokens low) =
    small_limit limit tables pieces leaving state p
small_limit limit tables _ _ _ (ends.cuts_leaving {pieces} {leaving} {piece} {state} p first second c) =
    small_limit limit tables pieces (piece ∷ leaving) state p
small_limit limit tables _ _ _ (ends.takes {pieces} {leaving} {state} p n there) =
    small_limit limit tables pieces leaving state p
small_limit limit tables _ _ _ (ends.records {pieces} {leaving} {piece} {state} p) =
    small_limit limit tables pieces (piece ∷ leaving) state p

broke_or_ends : (limit : ℕ) (tables : List Interface) (pieces leaving : List Piece) (state : State) → Valid tables
    → ServerEnds limit tables pieces leaving state → suc (length (judgements limit tables pieces)) < max_births
    → BrokeOrEnds limit tables pieces leaving state
broke_or_ends limit tables _ _ _ v
    (ends.posts {pieces} {arriving} {leaving} {state} p sound object code text word is news writes) few =
    let may = may_post state.core object text sound.objects is in
    let after = with_core state (after_error state.core object code text) in
    posts_from limit tables pieces arriving leaving state after
    (λ w. posted_now limit tables pieces arriving leaving state object.id code text may.word word may.fits after news refl
    refl writes w) (broke_or_plays limit tables pieces arriving leaving state v p few)
broke_or_ends limit tables _ _ _ v (ends.hears {pieces} {leaving} {state} p bytes tokens low) few =
    on_way_heard limit tables pieces leaving state bytes tokens v (small_limit limit tables pieces leaving state p) low few
    (broke_or_ends limit tables pieces leaving state v p
    (fewer_before limit tables pieces (from_client bytes tokens) max_births few))
broke_or_ends limit tables _ _ _ v (ends.cuts_leaving {pieces} {leaving} {piece} {state} p first second c) few =
    on_way_cut limit tables pieces leaving piece first second state c
    (broke_or_ends limit tables pieces (piece ∷ leaving) state v p few)
broke_or_ends limit tables _ _ _ v (ends.takes {pieces} {leaving} {state} p n there) few =
    on_way_taken limit tables pieces leaving state n there (broke_or_ends limit tables pieces leaving state v p few)
broke_or_ends limit tables _ _ _ v (ends.records {pieces} {leaving} {piece} {state} p) few =
    recorded_after limit tables pieces leaving piece state v
    (broke_or_ends limit tables pieces (piece ∷ leaving) state v p (fewer_before limit tables pieces piece max_births few))

-- ---- what a user reads

examined_until : (ms others : List Judged) (call : Call) → AllGoOn ms → ends_session (Ok call) ≡ true
    → examined (ms ++ Ok call ∷ others) ≡ suc (length ms)
examined_until [] others call a last = ap (λ (b : Bool). cond b 1 (suc (examined others))) last
examined_until (m ∷ ms) others call a last =
    let g = a zero m refl in
    ap (λ (b : Bool). cond b 1 (suc (examined (ms ++ Ok call ∷ others)))) g.goes_on
    ∙ ap suc (examined_until ms others call (λ i. a (suc i)) last)

no_fault_to : (ms others : List Judged) (call : Call) → AllGoOn ms → (k : ℕ) → k < suc (length ms)
    → fault_of (slice_get (ms ++ Ok call ∷ others) k) ≡ None
no_fault_to [] others call a zero below = refl
no_fault_to [] others call a (suc k) below = absurd (omega (arith, below))
no_fault_to (m ∷ ms) others call a zero below = ap (λ (j : Judged). fault_of (Some j)) (a zero m refl).is
no_fault_to (m ∷ ms) others call a (suc k) below =
    no_fault_to ms others call (λ i. a (suc i)) k (omega (arith, below))

module _ (limit : ℕ) (tables : List Interface) (pieces : List Piece) where
  abbrev session : Session
  session = session_of limit pieces

  ended_well : ErrorRecorded limit tables pieces → IsLawful tables session
  ended_well r k =
      let ms = judgements limit tables pieces in
      let count : examined ms ≡ suc (length r.before) =
      ap examined r.is ∙ examined_until r.before r.after r.call r.passed r.ends in
      elim (cases_lt k (suc (length r.before))) [
        | inl below ↦ faultless (nat_lt k (examined ms)) (fault_of (slice_get ms k))
            (ap (λ (l : List Judged). fault_of (slice_get l k)) r.is
            ∙ no_fault_to r.before r.after r.call r.passed k below)
        | inr above ↦ ap (λ (b : Bool). cond b (fault_of (slice_get ms k)) None)
            (le-ltb k (examined ms) (omega (arith, above, count)))
      ]

  module _ (leaving : List Piece) (state : State) (valid : Valid tables)
      (p : ServerEnds limit tables pieces leaving state) (few : suc (length (merged limit pieces)) < max_births) where
    on_way_well : ErrorOnWay limit tables pieces leaving state → IsLawful tables session
    on_way_well o = all_well limit tables pieces (calls_keep limit tables (judgements limit tables pieces) o.hears.asked
        o.before o.posting valid o.hears.calls)

    lawful_by : BrokeOrEnds limit tables pieces leaving state → ClientBroke limit tables pieces ⊎ IsLawful tables session
    lawful_by (inl b) = inl b
    lawful_by (inr (inl o)) = inr (on_way_well o)
    lawful_by (inr (inr r)) = inr (ended_well r)

    abbrev outcome : ClientBroke limit tables pieces ⊎ IsLawful tables session
    outcome = lawful_by (broke_or_ends limit tables pieces leaving state valid p (few_messages limit tables pieces few))

    by_client : (direction : Direction) (index offset : ℕ) (fault : Fault)
        → IsFirstBrokenMessage tables session direction index offset fault
        → ClientBroke limit tables pieces ⊎ IsLawful tables session → direction ≡ ToServer
    by_client direction index offset fault f (inl b) =
        first_of_broken limit tables pieces direction index offset fault f b
    by_client direction index offset fault f (inr lawful) =
        (let none = lawful f.place in let broken = f.broken in absurd (cc (none, broken)))

    pub ended_first_is_clients : (direction : Direction) (index offset : ℕ) (fault : Fault)
        → IsFirstBrokenMessage tables session direction index offset fault → direction ≡ ToServer
    ended_first_is_clients direction index offset fault f = by_client direction index offset fault f outcome

    lawful_if : NoRequestBreaks tables session → ClientBroke limit tables pieces ⊎ IsLawful tables session
        → IsLawful tables session
    lawful_if rules (inr lawful) = lawful
    lawful_if rules (inl b) =
        (let none = rules (length b.before) b.frame b.there b.direction in
        let some = broken_there limit tables pieces b in absurd (cc (none, some)))

    pub ended_stays_lawful : NoRequestBreaks tables session → IsLawful tables session
    ended_stays_lawful rules = lawful_if rules outcome
