-- The messages of a server that more bytes complete keep all rules.
use Rattle.std.proofs.Common.{◌≡◌, inl, inr, ℕ, ◌+◌, ◌-◌, ◌<◌, ◌≤◌, false, List, [], ◌∷◌, ◌++◌, length}
use Rattle.std.proofs.Common.{length-append, drop, map, refl, sym, ap, subst, ◌∙◌, arith}
use Rattle.std.specs.declared.result.Result.TheVariants.{Ok}
use Rattle.std.proofs.lemmas.Bool.{cases_lt}
use Rattle.std.proofs.lemmas.List.{drop-append-le, drop_all, drop-drop, length-drop}
use Rattle.wl_sigs.specs.Tables.{Interface}
use Rattle.wl_sigs.specs.Valid.{Valid}
use Rattle.wl_message.specs.Cut.{front, Front, More, Bad, Whole, IsMessage}
use Rattle.wl_message.specs.Outgoing.{QueuedMessage, all_bytes, all_tokens}
use Rattle.wl_message.proofs.Cuts.{front_message, whole_stays, bad_stays, front_none}
use Rattle.wl_message.proofs.Fronts.{front_stands}
use Rattle.wl_recording.specs.declared.piece.Direction.{Direction}
use Rattle.wl_recording.specs.declared.piece.Direction.TheVariants.{ToServer, ToClient}
use Rattle.wl_recording.specs.Piece.{Piece}
use Rattle.wl_check.specs.Changes.{Call}
use Rattle.wl_check.specs.Merged.{span, Cutting, cutting, cut_by_front, cut_stopped_at, framed, span_then_cut}
use Rattle.wl_check.specs.Rules.{judged}
use Rattle.wl_check.specs.Session.{Judged, judged_after}
use Rattle.wl_check.proofs.MessagesOfStream.{step}
use Rattle.wl_server.specs.State.{State}
use Rattle.theory_connection.specs.Meant.{Coming, Known, Message, spelled_coming}
use Rattle.theory_connection.specs.World.{Each}
use Rattle.theory_connection.specs.Flight.{server_rows}
use Rattle.theory_connection.proofs.Channels.{front_nil}
use Rattle.theory_recording.specs.Follows.{knowledge}
use Rattle.theory_peers.specs.FollowsServer.{FollowsServer, IsPlacedIn, KeepsRules}
use Rattle.theory_peers.specs.ServerCalls as calls
use Rattle.theory_peers.specs.ServerCalls.{MakesRun, ServerCalls}
use Rattle.theory_peers.proofs.CallsOfServer.{calls_run}
use Rattle.theory_peers.proofs.HeardRequests.{begins_with}
use Rattle.theory_peers.proofs.PassingPieces.{HaveTokens, begun_none, begun_tokens, have_behind, supply, tokens_passing}
use Rattle.theory_peers.proofs.RecordedOfServer.{coming_one}
use Rattle.theory_peers.proofs.RunOfServer.{run_follows}

-- a part of a message is no whole one
unfinished : (limit : ℕ) (x left more : List ℕ) (m : List ℕ) (f : Front) → front limit x ≡ f → x ++ left ≡ m ++ more
    → IsMessage limit m → length x < length m → front limit x ≡ More
unfinished limit x left more m More e is whole h = e
unfinished limit x left more m (Bad n) e is whole h =
    let p : front limit (x ++ left) ≡ Bad n = bad_stays limit x left n e in
    let q : front limit (m ++ more) ≡ Whole (length m) = front_message limit m more whole in
    absurd (cc (p, q, ap (front limit) is))
unfinished limit x left more m (Whole n) e is whole h =
    let p : front limit (x ++ left) ≡ Whole n = whole_stays limit x left n e in
    let q : front limit (m ++ more) ≡ Whole (length m) = front_message limit m more whole in
    let size : n ≡ length m = cc (p, q, ap (front limit) is) in
    let there = (front_stands limit x n e).there in
    absurd (omega (arith, size, there, h))

-- ---- one message

module _ (limit : ℕ) (tables : List Interface) (streams : Direction → List ℕ) (t : ℕ)
    (F : List Judged → List QueuedMessage → Type 0) where
  -- The message at a place keeps all rules and takes its tokens; afterwards, F holds of the others.
  pub record KeepsOneMore (e : List Judged) (m : QueuedMessage) (written : List QueuedMessage) (p : ℕ) : Type 0 where
    pub call : Call
    pub is : judged limit tables (knowledge tables e) (streams ToClient)
        (framed ToClient t (span p (length m.bytes))) ≡ Ok call
    pub own : (knowledge tables (e ++ Ok call ∷ [])).taken ToClient
        ≡ (knowledge tables e).taken ToClient + length m.tokens
    pub other : (knowledge tables (e ++ Ok call ∷ [])).taken ToServer ≡ (knowledge tables e).taken ToServer
    pub next : F (e ++ Ok call ∷ []) written

  -- so does the first of any messages of which F holds
  abbrev pub KeepsEach : Type 0
  KeepsEach = (e : List Judged) (m : QueuedMessage) (written : List QueuedMessage) (p : ℕ) → F e (m ∷ written)
      → IsPlacedIn limit (streams ToClient) p ((knowledge tables e).taken ToClient) t m → KeepsOneMore e m written p

module _ (limit : ℕ) (tables : List Interface) (valid : Valid tables) (streams : Direction → List ℕ) (t : ℕ)
    (asked : List (Message Known)) (state : State) where
  abbrev pub CallsLeave : List Judged → List QueuedMessage → Type 0
  CallsLeave e written = ServerCalls limit tables e asked written state

  one_by : (e : List Judged) (m : QueuedMessage) (written : List QueuedMessage) (p : ℕ)
      → ServerCalls limit tables e asked (m ∷ written) state
      → IsPlacedIn limit (streams ToClient) p ((knowledge tables e).taken ToClient) t m
      → (run : MakesRun limit tables e asked (m ∷ written) state) → (told : List (Coming Known)) → run.told ≡ told
      → map spelled_coming told ≡ m ∷ written → KeepsOneMore limit tables streams t CallsLeave e m written p
  one_by e m written p c at run [] is spelled = absurd (cc spelled)
  one_by e m written p c at run (coming ∷ told) is spelled =
      let first : spelled_coming coming ≡ m = cc spelled in
      let server = server_rows state.core.view in
      let stream = streams ToClient in
      let follows = run_follows limit tables e asked run.told server valid run.run in
      let keeps = coming_one limit tables e asked coming told server stream p t valid
      (subst (λ (l : List (Coming Known)). FollowsServer tables e asked l server) is follows)
      (subst (λ (q : QueuedMessage). IsPlacedIn limit stream p ((knowledge tables e).taken ToClient) t q) (sym first) at) in
      let own = subst (λ (q : QueuedMessage). KeepsRules limit tables stream p t q e asked told server) first keeps in
      record {
        call = own.call;
        is = own.is;
        own = own.own;
        other = own.other;
        next = subst (λ (j : Judged). ServerCalls limit tables (e ++ j ∷ []) asked written state) own.is
            (calls.records c stream p t at);
      }

  -- the first of the messages that a server's calls wrote
  pub calls_keep_each : KeepsEach limit tables streams t CallsLeave
  calls_keep_each e m written p c at =
      let run = calls_run limit tables e asked (m ∷ written) state valid c in
      one_by e m written p c at run run.told refl run.spelled

-- ---- messages one after another

-- The server wrote messages that are not wholly recorded: those that it gave out, all but what is
-- left of the last, and others. These pieces of them are still on their way. The first of such
-- messages keeps all rules.
module _ (limit : ℕ) (tables : List Interface) (streams : Direction → List ℕ) (t : ℕ)
    (F : List Judged → List QueuedMessage → Type 0) (each : KeepsEach limit tables streams t F)
    (leaving : List Piece) (others : List QueuedMessage) (left : List ℕ) where
  abbrev stream : List ℕ
  stream = streams ToClient

  abbrev then_judged : List Judged → Cutting → List Judged
  then_judged e c = judged_after limit tables streams e (map (framed ToClient t) c.spans)

  -- all is recorded up to a place of the stream, with the tokens that these messages have already
  pub record RecordedTo (e : List Judged) (gone : List QueuedMessage) (p : ℕ) (x : List ℕ) (have : ℕ) : Type 0 where
    pub holds : F e (gone ++ others)
    pub at : drop p stream ≡ x
    pub inside : p ≤ length stream
    pub bytes : x ++ left ≡ all_bytes gone
    pub whole : Each (λ m. IsMessage limit m.bytes) gone
    pub have_is : (knowledge tables e).taken ToClient + have ≡ t
    pub tokens : t + tokens_passing leaving ≡ (knowledge tables e).taken ToClient + length (all_tokens gone)
    pub in_time : HaveTokens (supply (length x) have leaving) 0 0 gone

  -- all that is whole in the stream is recorded
  pub record RecordsAll (e : List Judged) (c : Cutting) : Type 0 where
    pub gone : List QueuedMessage
    pub have : ℕ
    pub holds : F (then_judged e c) (gone ++ others)
    pub sound : c.has_bad_size ≡ false
    pub part : List ℕ
    pub rest : drop c.place stream ≡ part
    pub bytes : part ++ left ≡ all_bytes gone
    pub whole : Each (λ m. IsMessage limit m.bytes) gone
    pub have_is : (knowledge tables (then_judged e c)).taken ToClient + have ≡ t
    pub tokens : t + tokens_passing leaving
        ≡ (knowledge tables (then_judged e c)).taken ToClient + length (all_tokens gone)
    pub in_time : HaveTokens (supply (length part) have leaving) 0 0 gone
    pub other : (knowledge tables (then_judged e c)).taken ToServer ≡ (knowledge tables e).taken ToServer

  abbrev from_place : ℕ → Cutting
  from_place p = cutting limit (length stream) stream p

  -- only a part of the next message is there
  stops : (e : List Judged) (gone : List QueuedMessage) (p : ℕ) (x : List ℕ) (have : ℕ)
      → RecordedTo e gone p x have → front limit x ≡ More → RecordsAll e (from_place p)
  unfolding judged_after
  stops e gone p x have h more =
      let here : from_place p ≡ cut_stopped_at p =
      step limit (length stream) stream p h.inside (omega arith)
      ∙ ap (λ (o : Front). cut_by_front p o from_place) (ap (front limit) h.at ∙ more) in
      subst (RecordsAll e) (sym here) (record {
        gone = gone;
        have = have;
        holds = h.holds;
        sound = refl;
        part = x;
        rest = h.at;
        bytes = h.bytes;
        whole = h.whole;
        have_is = h.have_is;
        tokens = h.tokens;
        in_time = h.in_time;
        other = refl;
      })

  -- others may follow it
  goes : (e : List Judged) (m : QueuedMessage) (p : ℕ) (x more : List ℕ) → IsMessage limit m.bytes
      → drop p stream ≡ x → p ≤ length stream → x ≡ m.bytes ++ more → (call : Call)
      → judged limit tables (knowledge tables e) stream (framed ToClient t (span p (length m.bytes))) ≡ Ok call
      → (knowledge tables (e ++ Ok call ∷ [])).taken ToServer ≡ (knowledge tables e).taken ToServer
      → RecordsAll (e ++ Ok call ∷ []) (from_place (p + length m.bytes)) → RecordsAll e (from_place p)
  unfolding judged_after
  goes e m p x more whole at within is call good other w =
      let size = length m.bytes in
      let c = from_place (p + size) in
      let found : front limit (drop p stream) ≡ Whole size =
      ap (front limit) (at ∙ is) ∙ front_message limit m.bytes more whole in
      let here : from_place p ≡ span_then_cut (span p size) c =
      step limit (length stream) stream p within (omega arith)
      ∙ ap (λ (f : Front). cut_by_front p f from_place) found in
      let same : then_judged e (span_then_cut (span p size) c) ≡ then_judged (e ++ Ok call ∷ []) c =
      ap (λ (j : Judged). judged_after limit tables streams (e ++ j ∷ []) (map (framed ToClient t) c.spans)) good in
      let taken = λ (d : Direction). ap (λ (j : List Judged). (knowledge tables j).taken d) same in
      subst (RecordsAll e) (sym here) (record {
        gone = w.gone;
        have = w.have;
        holds = subst (λ (j : List Judged). F j (w.gone ++ others)) (sym same) w.holds;
        sound = w.sound;
        part = w.part;
        rest = w.rest;
        bytes = w.bytes;
        whole = w.whole;
        have_is = (let a = w.have_is in let b = taken ToClient in omega (arith, a, b));
        tokens = (let a = w.tokens in let b = taken ToClient in omega (arith, a, b));
        in_time = w.in_time;
        other = taken ToServer ∙ w.other ∙ other;
      })

  -- ---- all of them

  pub record_all : (gone : List QueuedMessage) (e : List Judged) (p : ℕ) (x : List ℕ) (have : ℕ)
      → RecordedTo e gone p x have → RecordsAll e (from_place p)
  record_all [] e p x have h =
      stops e [] p x have h (ap (front limit) (front_nil x left h.bytes) ∙ front_none limit)
  record_all (m ∷ gone) e p x have h = elim (cases_lt (length x) (length m.bytes)) [
    | inl short ↦ stops e (m ∷ gone) p x have h
        (unfinished limit x left (all_bytes gone) m.bytes (front limit x) refl h.bytes h.whole.0 short)
    | inr long ↦
        let size = length m.bytes in
        let count = length m.tokens in
        let a = begins_with x left m.bytes (all_bytes gone) h.bytes long in
        let none : (0 + size) - length x ≡ 0 = omega (arith, long) in
        let nothing = ap (λ (n : ℕ). begun_tokens n leaving) none ∙ begun_none leaving in
        let first = h.in_time.0 in
        let have_is = h.have_is in
        let there : count ≤ have = omega (arith, first, nothing) in
        let at = h.at ∙ a.is in
        let placed : IsPlacedIn limit stream p ((knowledge tables e).taken ToClient) t m =
        record { whole = h.whole.0; more = a.others; bytes = at; enough = omega (arith, there, have_is) } in
        let o = each e m (gone ++ others) p h.holds placed in
        let lengths : length x ≡ size + length a.others = ap length a.is ∙ length-append m.bytes a.others in
        let next : drop (p + size) stream ≡ a.others =
        sym (drop-drop size p stream) ∙ ap (drop size) at
        ∙ drop-append-le size m.bytes a.others (omega arith)
        ∙ ap (λ (l : List ℕ). l ++ a.others) (drop_all size m.bytes (omega arith)) in
        let inside = h.inside in
        let stream_length = ap length h.at in
        let own = o.own in
        let tokens = h.tokens in
        let all = length-append m.tokens (all_tokens gone) in
        let less : (i : ℕ) → supply (length x) have leaving (size + i)
        ≤ count + supply (length a.others) (have - count) leaving i =
        λ i. (let same : (size + i) - length x ≡ i - length a.others = omega (arith, lengths) in
        let b = ap (λ (j : ℕ). begun_tokens j leaving) same in
        omega (arith, b, there)) in
        goes e m p x a.others h.whole.0 h.at h.inside a.is o.call o.is o.other
        (record_all gone (e ++ Ok o.call ∷ []) (p + size) a.others (have - count) (record {
          holds = o.next;
          at = next;
          inside = omega (arith, long, stream_length, length-drop p stream, inside);
          bytes = a.behind;
          whole = h.whole.1;
          have_is = omega (arith, have_is, own, there);
          tokens = omega (arith, tokens, own, all);
          in_time = have_behind (supply (length x) have leaving) (supply (length a.others) (have - count) leaving) size
              count less 0 (0 + size) 0 (0 + count) (omega arith) (omega arith) gone h.in_time.1;
        }))
  ]
