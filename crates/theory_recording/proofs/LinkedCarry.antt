-- A carry keeps a pair linked.
use Rattle.std.proofs.Common.{◌≡◌, ℕ, ◌+◌, List, [], ◌∷◌, ◌++◌, length-append, map, refl, sym, ap, subst, ◌∙◌, arith}
use Rattle.std.specs.Prelude.{option_map}
use Rattle.std.proofs.lemmas.List.{append_assoc}
use Rattle.wl_sigs.specs.Tables.{Interface}
use Rattle.theory_connection.specs.Meant.{Born, born_of_entry}
use Rattle.wl_object_map.specs.Objects.{look}
use Rattle.theory_connection.proofs.RowsAfterMessage.{map_some}
use Rattle.wl_sigs.specs.Valid.{Valid}
use Rattle.wl_message.specs.Outgoing as boxes
use Rattle.wl_client.specs.declared.globals.Global.{Global as Remembered}
use Rattle.wl_server.specs.State.{Global}
use Rattle.wl_recording.specs.declared.piece.Direction.{Direction}
use Rattle.wl_recording.specs.declared.piece.Direction.TheVariants.{ToServer, ToClient}
use Rattle.wl_check.specs.Merged.{stream_of, piece_tokens}
use Rattle.wl_check.specs.Session.{Judged}
use Rattle.wl_check.proofs.PiecesOfCarry.{carry_brings}
use Rattle.theory_connection.specs.Meant.{Born, Known, Message, Coming, spelled_meant, spelled_coming}
use Rattle.theory_connection.specs.World.{World, Running, Row, Each}
use Rattle.theory_connection.specs.Pair.{PairState, carries, carried_bytes, carried_tokens}
use Rattle.theory_connection.specs.Pair.{after_carry_to_server, after_carry_to_client}
use Rattle.theory_connection.specs.Flight.{Rows, client_rows, server_rows, all_tells, all_asks, Ask, MeetInMiddle}
use Rattle.theory_connection.specs.Stands.{StandsBy, InFlight, AsksFitly, ComesFitly, IsGlobal, by_event}
use Rattle.theory_connection.proofs.WholeInFlight.{all_asks_both, each_rest}
use Rattle.theory_connection.proofs.Carries.{carry_fits}
use Rattle.theory_connection.proofs.Errors.{nothing_behind}
use Rattle.theory_connection.proofs.Stands.{none_behind}
use Rattle.theory_connection.specs.Flight as flight
use Rattle.theory_recording.specs.Follows.{Follows}
use Rattle.theory_recording.specs.Linked.{LinkedBy, pair_limit}
use Rattle.theory_recording.proofs.CalledAsMeant.{One}
use Rattle.theory_recording.proofs.RecordedRequest.{ask_one}
use Rattle.theory_recording.proofs.RecordedEvent.{Whereabouts, tell_one}
use Rattle.theory_recording.proofs.CompletedMessages.{KeepsOne}
use Rattle.theory_recording.proofs.RecordedCarry.{recorded_other, carry_recorded}

pub one_with : {limit : ℕ} {tables : List Interface} {d : Direction} {stream : List ℕ} {t
    p : ℕ} {sent : boxes.QueuedMessage} {e : List Judged} (P Q : List Judged → Type 0)
    → ((e' : List Judged) → P e' → Q e')
    → One limit tables d stream t p sent e P → One limit tables d stream t p sent e Q
one_with {e = e} P Q f o = record { call = o.call; is = o.is; own = o.own; other = o.other; next = f _ o.next }

-- ---- to the server

-- the checker follows the ends, and the requests that are not yet recorded fit
abbrev Asking : List Interface → List Global → List (Coming Known) → Rows Row → List Remembered → List Judged
    → List (Message Known) → List (Message Known) → Type 0
Asking tables given told_seen client remembered e seen later =
    Follows tables e later told_seen client remembered × Each (AsksFitly tables given) later

asking_one : (limit : ℕ) (tables : List Interface) (given : List Global) (told_seen : List (Coming Known))
    (client : Rows Row) (remembered : List Remembered) (streams : Direction → List ℕ) (t : ℕ)
    → Valid tables → Each (IsGlobal tables) given
    → KeepsOne spelled_meant limit tables ToServer streams t (Asking tables given told_seen client remembered)
asking_one limit tables given told_seen client remembered streams t valid globals e seen later m p more f whole
    at enough =
    one_with (λ e'. Follows tables e' later told_seen client remembered)
    (λ e'. Asking tables given told_seen client remembered e' (seen ++ m ∷ []) later) (λ e' g. (g, f.1.1))
    (ask_one limit tables given told_seen client remembered
    (streams ToServer) more t p e m later valid globals f.0 f.1.0 whole at enough)

-- a carry to the server keeps a pair linked
pub carry_to_server_links : (p : PairState) (w : World) (asked : List (Message Known)) (told : List (Coming Known))
    (most : ℕ) → LinkedBy p w asked told
    → StandsBy (after_carry_to_server p (carries p.client.core p.server.core most)) w asked told
    → LinkedBy (after_carry_to_server p (carries p.client.core p.server.core most)) w asked told
carry_to_server_links p w asked told most l s =
    let tables = p.server.core.tables in
    let limit = pair_limit p in
    let taken = carries p.client.core p.server.core most in
    let bytes = carried_bytes p.client.core taken in
    let next = after_carry_to_server p taken in
    let ps = p.recording in
    let qs = next.recording in
    let client = client_rows p.client.core.view in
    let F = Asking tables p.server.globals l.events.seen client p.client.globals in
    let brings = carry_brings limit tables ToServer ps bytes taken.tokens in
    let fits = each_rest (AsksFitly tables p.server.globals) l.requests.seen l.requests.later
    (subst (Each (AsksFitly tables p.server.globals)) l.requests.is l.stands.requests.fit) in
    let there = (carry_fits p.client.core p.server.core most).tokens_there in
    let flight = subst (λ (ms : List (Message Known)). InFlight next.client.core.outbox next.server.core.inbox
    (map spelled_meant ms)) l.requests.is (none_behind next.client.core.outbox next.server.core.inbox
    (map spelled_meant asked) [] s.requests.in_boxes refl) in
    let c = carry_recorded spelled_meant limit tables ToServer ps qs bytes taken.tokens F next.client.core.outbox
    p.server.core.inbox next.server.core.inbox l.requests.seen l.requests.later brings
    (asking_one limit tables p.server.globals l.events.seen client p.client.globals (λ x. stream_of x qs)
    (piece_tokens ToServer ps + taken.tokens) l.stands.terms.valid l.stands.globals.globals)
    l.requests.recorded (l.follows, fits) flight refl
    (omega (arith, there, length-append p.server.core.inbox.tokens (carried_tokens p.client.core taken))) refl in
    record {
      stands = s;
      requests = record {
        seen = l.requests.seen ++ c.fresh;
        later = c.still;
        is = l.requests.is ∙ ap (λ (ms : List (Message Known)). l.requests.seen ++ ms) c.later_is
            ∙ sym (append_assoc l.requests.seen c.fresh c.still);
        recorded = c.own;
      };
      events = record {
        seen = l.events.seen;
        later = l.events.later;
        is = l.events.is;
        recorded = recorded_other limit tables ToServer ToClient ps qs bytes taken.tokens p.client.core.inbox
            (map spelled_coming l.events.seen) brings refl (c.other ToClient refl) l.events.recorded;
      };
      follows = c.next.0;
      counted = l.counted;
    }

-- ---- to the client

-- the checker follows the ends, and the events that are not yet recorded fit
abbrev pub Telling : List Interface → List Global → List (Message Known) → List (Coming Known) → Rows Row → List Remembered
    → List Judged → List (Coming Known) → List (Coming Known) → Type 0
Telling tables given asked_later told client remembered e seen later =
    Follows tables e asked_later seen client remembered × (told ≡ seen ++ later) × Each (ComesFitly tables given) later

pub telling_one : (limit : ℕ) (tables : List Interface) (given : List Global)
    (asked_seen asked_later : List (Message Known)) (told : List (Coming Known)) (client : Rows Row)
    (server : Rows Born) (remembered : List Remembered)
    (streams : Direction → List ℕ) (t : ℕ) → Valid tables
    → Whereabouts tables asked_seen asked_later told client server
    → KeepsOne spelled_coming limit tables ToClient streams t (Telling tables given asked_later told client remembered)
telling_one limit tables given asked_seen asked_later told client server remembered streams t valid w e seen later
    c p more f whole at enough =
    one_with (λ e'. Follows tables e' asked_later (seen ++ c ∷ []) client remembered)
    (λ e'. Telling tables given asked_later told client remembered e' (seen ++ c ∷ []) later)
    (λ e' g. (g, f.1 ∙ sym (append_assoc seen (c ∷ []) later), f.2.1))
    (tell_one limit tables given asked_seen asked_later told client server remembered
    (streams ToClient) more t p e seen later c valid w f.1 f.0 f.2.0 whole at enough)

pub whereabouts : (p : PairState) (w : World) (asked : List (Message Known)) (told : List (Coming Known))
    (l : LinkedBy p w asked told)
    → Whereabouts p.server.core.tables l.requests.seen l.requests.later told (client_rows p.client.core.view)
    (server_rows p.server.core.view)
whereabouts p w asked told l =
    let parts = ap all_asks l.requests.is ∙ all_asks_both l.requests.seen l.requests.later in
    record {
      meet = subst (λ (qs : List Ask). MeetInMiddle (by_event p.server.core.tables) (all_tells told) qs
          (client_rows p.client.core.view) (server_rows p.server.core.view)) parts l.stands.meet;
      counted = l.counted;
      made_by = λ id x h. (let m = map_some (born_of_entry id) (look p.server.core.view id) x h in
          sym (ap (λ (b : Born). b.birth.maker) m.2));
      display = ap (option_map (flight.row_of_entry 1)) l.stands.client.display;
    }

-- a carry to the client keeps a pair linked
pub carry_to_client_links : (p : PairState) (w : World) (asked : List (Message Known)) (told : List (Coming Known))
    (most : ℕ) → w.stage ≡ Running → LinkedBy p w asked told
    → StandsBy (after_carry_to_client p (carries p.server.core p.client.core most)) w asked told
    → LinkedBy (after_carry_to_client p (carries p.server.core p.client.core most)) w asked told
carry_to_client_links p w asked told most z l s =
    let tables = p.server.core.tables in
    let limit = pair_limit p in
    let taken = carries p.server.core p.client.core most in
    let bytes = carried_bytes p.server.core taken in
    let next = after_carry_to_client p taken in
    let ps = p.recording in
    let qs = next.recording in
    let client = client_rows p.client.core.view in
    let F = Telling tables p.server.globals l.requests.later told client p.client.globals in
    let brings = carry_brings limit tables ToClient ps bytes taken.tokens in
    let fits = each_rest (ComesFitly tables p.server.globals) l.events.seen l.events.later
    (subst (Each (ComesFitly tables p.server.globals)) l.events.is l.stands.events.fit) in
    let there = (carry_fits p.server.core p.client.core most).tokens_there in
    let flight = subst (λ (cs : List (Coming Known)). InFlight next.server.core.outbox next.client.core.inbox
    (map spelled_coming cs)) l.events.is (none_behind next.server.core.outbox next.client.core.inbox
    (map spelled_coming told) s.behind s.events.in_boxes (nothing_behind s z)) in
    let c = carry_recorded spelled_coming limit tables ToClient ps qs bytes taken.tokens F next.server.core.outbox
    p.client.core.inbox next.client.core.inbox l.events.seen l.events.later brings
    (telling_one limit tables p.server.globals l.requests.seen l.requests.later told client
    (server_rows p.server.core.view) p.client.globals (λ x. stream_of x qs)
    (piece_tokens ToClient ps + taken.tokens) l.stands.terms.valid
    (whereabouts p w asked told l))
    l.events.recorded (l.follows, l.events.is, fits) flight refl
    (omega (arith, there, length-append p.client.core.inbox.tokens (carried_tokens p.server.core taken))) refl in
    record {
      stands = s;
      requests = record {
        seen = l.requests.seen;
        later = l.requests.later;
        is = l.requests.is;
        recorded = recorded_other limit tables ToClient ToServer ps qs bytes taken.tokens p.server.core.inbox
            (map spelled_meant l.requests.seen) brings refl (c.other ToServer refl) l.requests.recorded;
      };
      events = record {
        seen = l.events.seen ++ c.fresh;
        later = c.still;
        is = l.events.is ∙ ap (λ (cs : List (Coming Known)). l.events.seen ++ cs) c.later_is
            ∙ sym (append_assoc l.events.seen c.fresh c.still);
        recorded = c.own;
      };
      follows = c.next.0;
      counted = l.counted;
    }
