-- A run of a server that posted an error: what is recorded to its end.
use Rattle.std.proofs.Common.{◌≡◌, inl, ℕ, ◌+◌, ◌-◌, ◌<◌, ◌^◌, Bool, true, false, cond, List, []}
use Rattle.std.proofs.Common.{◌∷◌, ◌++◌, drop, length, take, refl, sym, ap, subst, ◌∙◌}
use Rattle.std.proofs.Common.{arith}
use Rattle.std.specs.declared.option.Option.{Option}
use Rattle.std.specs.declared.option.Option.TheVariants.{None, Some}
use Rattle.std.specs.declared.result.Result.TheVariants.{Err, Ok}
use Rattle.wl_wire.specs.declared.kind.Iface.{Iface}
use Rattle.wl_wire.specs.Word.{header_at}
use Rattle.wl_sigs.specs.Side.TheVariants.{Event as event_side}
use Rattle.wl_sigs.specs.Tables.{Interface}
use Rattle.wl_sigs.specs.Valid.{Valid}
use Rattle.wl_message.specs.Cut.{is_size}
use Rattle.wl_message.specs.Outgoing.{QueuedMessage}
use Rattle.wl_message.proofs.Fronts.{is_size-true}
use Rattle.wl_object_map.specs.Objects.{ObjectsAreSound, look}
use Rattle.wl_object_map.specs.declared.object.Entry.{Entry}
use Rattle.wl_object_map.specs.declared.object.Object.{Object}
use Rattle.wl_objects.specs.declared.error.Fault.TheVariants.{BadSize}
use Rattle.wl_objects.specs.declared.error.SendError.TheVariants as refusals
use Rattle.wl_objects.specs.Messages.{is_error, live_row}
use Rattle.wl_connection.specs.Core.{Core}
use Rattle.wl_server.specs.Calls.{error_at, error_refusal, is_error_text}
use Rattle.wl_server.specs.State.{State}
use Rattle.wl_recording.specs.declared.piece.Direction.{Direction}
use Rattle.wl_recording.specs.declared.piece.Direction.TheVariants.{ToServer, ToClient}
use Rattle.wl_check.specs.Changes.{Call}
use Rattle.wl_check.specs.Merged.{span, framed}
use Rattle.wl_check.specs.Rules.{called, judged_message, reader_by}
use Rattle.wl_check.specs.Session.{Judged, ends_session}
use Rattle.wl_check.proofs.LongerRecording.{behind_one}
use Rattle.theory_connection.specs.Meant.{Known, Message}
use Rattle.theory_connection.specs.World.{Posted, display_born}
use Rattle.theory_connection.specs.Flight.{server_rows}
use Rattle.theory_connection.specs.Stands.{error_message}
use Rattle.theory_connection.proofs.ErrorRead.{error_short, error_signature, error_values, erring, received_error}
use Rattle.theory_connection.proofs.ReadAsMeant.{parted}
use Rattle.theory_connection.proofs.TwoRanges.{row_word}
use Rattle.theory_recording.specs.Follows.{AllGoOn, birth_places, knowledge}
use Rattle.theory_recording.proofs.CalledAsMeant.{other_taken}
use Rattle.theory_recording.proofs.CheckerOfRows.{held_known}
use Rattle.theory_recording.proofs.JudgedAsMeant.{body_is}
use Rattle.theory_peers.specs.FollowsServer.{IsPlacedIn}
use Rattle.theory_peers.specs.ServerCalls.{ServerCalls}
use Rattle.theory_peers.proofs.CallsOfServer.{calls_run}
use Rattle.theory_peers.proofs.RecordedEvents.{CallsLeave, KeepsEach, KeepsOneMore, calls_keep_each}
use Rattle.theory_peers.proofs.RunOfServer.{run_follows}

-- ---- an error that may be posted

-- its object's id is a word, and its text may be sent
pub record MayPost (core : Core) (object : Object) (text : List ℕ) : Type 0 where
  pub word : object.id < 2 ^ 32
  pub fits : is_error_text text ≡ true

row_of : (b : Bool) (o : Option Entry) (entry : Entry) → cond b o None ≡ Some entry → o ≡ Some entry
row_of true o entry h = h
row_of false o entry h = absurd (cc h)

text_of : (b : Bool) (text : List ℕ) → is_error_text text ≡ b → cond b None (Some (refusals.WrongArgs 2)) ≡ None
    → is_error_text text ≡ true
text_of true text is h = is
text_of false text is h = absurd (cc h)

post_at : (core : Core) (object : Object) (text : List ℕ) (o : Option Entry) → ObjectsAreSound core.view
    → live_row core.view object ≡ o → error_at text o ≡ None → MayPost core object text
post_at core object text None sound row h = absurd (cc h)
post_at core object text (Some entry) sound row h =
    let there = row_of _ (look core.view object.id) entry row in
    record {
      word = (row_word core.view object.id entry sound there).1;
      fits = text_of (is_error_text text) text refl h;
    }

post_by : (core : Core) (object : Object) (text : List ℕ) (b : Bool) → ObjectsAreSound core.view
    → cond b (Some refusals.Failed) (error_at text (live_row core.view object)) ≡ None → MayPost core object text
post_by core object text true sound h = absurd (cc h)
post_by core object text false sound h = post_at core object text (live_row core.view object) sound refl h

pub may_post : (core : Core) (object : Object) (text : List ℕ) → ObjectsAreSound core.view
    → error_refusal core object text ≡ None → MayPost core object text
may_post core object text sound h = post_by core object text core.failed sound h

-- ---- the error is recorded

-- the last message is wl_display.error and keeps all rules, and the session went on before it
pub record EndsInError (e : List Judged) : Type 0 where
  pub before : List Judged
  pub call : Call
  pub is : e ≡ before ++ Ok call ∷ []
  pub passed : AllGoOn before
  pub ends : ends_session (Ok call) ≡ true

-- an error with this code and text, whatever object it is about, and its bytes
abbrev error_posted : ℕ → List ℕ → Posted
error_posted code text = record { object = display_born; code = code; text = text }

abbrev pub error_sent : ℕ → ℕ → List ℕ → QueuedMessage
error_sent id code text = error_message id (error_posted code text)

module _ (limit : ℕ) (tables : List Interface) (valid : Valid tables) (id code : ℕ) (text : List ℕ)
    (word : id < 2 ^ 32) (code_word : code < 2 ^ 32) (fits : is_error_text text ≡ true)
    (streams : Direction → List ℕ) (t : ℕ) (asked : List (Message Known)) (state : State) where
  -- these messages were written and are not recorded: those of the server's calls and the error,
  -- or none any more
  pub data LeavesError (e : List Judged) (written : List QueuedMessage) : Type 0 where
    going : (before : List QueuedMessage) → written ≡ before ++ (error_sent id code text) ∷ []
        → ServerCalls limit tables e asked before state → LeavesError e written
    over : written ≡ [] → EndsInError e → LeavesError e written

  error_one : (e : List Judged) (written : List QueuedMessage) (p : ℕ)
      → ServerCalls limit tables e asked [] state
      → IsPlacedIn limit (streams ToClient) p ((knowledge tables e).taken ToClient) t (error_sent id code text) → written ≡ []
      → KeepsOneMore limit tables streams t LeavesError e (error_sent id code text) written p
  error_one e written p c at none =
      let stream = streams ToClient in
      let k = knowledge tables e in
      let m = erring id (error_posted code text) in
      let vs = error_values id (error_posted code text) in
      let n = length (error_sent id code text).bytes in
      let run = calls_run limit tables e asked [] state valid c in
      let f = run_follows limit tables e asked run.told (server_rows state.core.view) valid run.run in
      let o = held_known tables k (birth_places tables e) f.here m.target f.known_as (inl f.display) in
      let call : Call = record {
        direction = ToClient;
        opcode = 0;
        received = record {
          target = record { id = 1; birth = o.entry.birth };
          entry = o.entry;
          signature = error_signature;
          values = vs;
        };
      } in
      let size : is_size limit n ≡ true = is_size-true limit n at.whole.size in
      let header = header_at (drop p stream) in
      let short = error_short id (error_posted code text) fits in
      let q = parted (drop p stream) at.more 1 0 vs at.bytes (omega arith) (omega arith) (omega (arith, short)) in
      let read = received_error tables valid (reader_by tables k ToClient) header _ o.entry id (error_posted code text)
      (ap (reader_by tables k ToClient).object q.object ∙ o.there) o.iface o.version q.object q.opcode_is word code_word
      fits in
      let whole_one = judged_message tables k (framed ToClient t (span p n)) header in
      record {
        call = call;
        is = ap (λ (b : Bool). cond b (whole_one (take (n - 8) (drop (p + 8) stream))) (Err BadSize)) size
            ∙ ap whole_one (body_is m stream at.more p at.bytes)
            ∙ ap (called tables k ToClient header.opcode) read
            ∙ ap (λ (opcode : ℕ). called tables k ToClient opcode (Ok call.received)) q.opcode_is;
        own = (behind_one tables e call).taken_is ToClient;
        other = other_taken tables e call ToServer refl;
        next = over none (record {
          before = e;
          call = call;
          is = refl;
          passed = f.passed;
          ends = ap (λ (i : Iface). is_error event_side i 0) o.iface;
        });
      }

  first_of : (x y : QueuedMessage) (xs ys : List QueuedMessage) → x ∷ xs ≡ y ∷ ys → x ≡ y
  first_of x y xs ys e = cc e

  others_of : (x y : QueuedMessage) (xs ys : List QueuedMessage) → x ∷ xs ≡ y ∷ ys → xs ≡ ys
  others_of x y xs ys e = cc e

  still_going : (e : List Judged) (m : QueuedMessage) (before : List QueuedMessage) (written : List QueuedMessage) (p : ℕ)
      → written ≡ before ++ (error_sent id code text) ∷ []
      → KeepsOneMore limit tables streams t (CallsLeave limit tables valid streams t asked state) e m before p
      → KeepsOneMore limit tables streams t LeavesError e m written p
  still_going e m before written p is k = record {
    call = k.call;
    is = k.is;
    own = k.own;
    other = k.other;
    next = going before is k.next;
  }

  pub error_keeps_each : KeepsEach limit tables streams t LeavesError
  error_keeps_each e m written p (over none ends) at = absurd (cc none)
  error_keeps_each e m written p (going [] is c) at =
      let first = first_of m (error_sent id code text) written [] is in
      let none = others_of m (error_sent id code text) written [] is in
      subst (λ (x : QueuedMessage). KeepsOneMore limit tables streams t LeavesError e x written p) (sym first)
      (error_one e written p c
      (subst (λ (x : QueuedMessage). IsPlacedIn limit (streams ToClient) p ((knowledge tables e).taken ToClient) t x)
      first at) none)
  error_keeps_each e m written p (going (x ∷ before) is c) at =
      let first = first_of m x written (before ++ (error_sent id code text) ∷ []) is in
      let rest = others_of m x written (before ++ (error_sent id code text) ∷ []) is in
      still_going e m before written p rest (calls_keep_each limit tables valid streams t asked state e m before p
      (subst (λ (y : QueuedMessage). ServerCalls limit tables e asked (y ∷ before) state) (sym first) c) at)
