-- Consecutive parts of the session.
use Rattle.std.proofs.Common.{◌≡◌, ◌∙◌, ℕ, Bool, true, List, [], ◌∷◌, ◌++◌, length, sym, ap, refl, subst, OnOk}
use Rattle.std.specs.declared.result.Result.{Result}
use Rattle.std.specs.declared.result.Result.TheVariants.{Ok, Err}
use Rattle.wl_wire.specs.declared.kind.Iface.{Iface}
use Rattle.std.specs.declared.option.Option.TheVariants.{None}
use Rattle.std.specs.Io.KnownBytes.{Consumes}
use Rattle.wl_sigs.specs.Tables.{Interface}
use Rattle.wl_message.specs.Outgoing.{waiting_bytes}
use Rattle.wl_connection.specs.Reads.{Reads, with_arrivals}
use Rattle.wl_client.specs.State as client
use Rattle.wl_client.specs.Reports as events
use Rattle.wl_client.specs.Streams as client_streams
use Rattle.wl_server.specs.State as server
use Rattle.wl_server.specs.Requests as requests
use Rattle.wl_server.specs.Streams as server_streams
use Rattle.wl_recording.specs.Piece.{Piece, passed}
use Rattle.wl_recording.specs.declared.piece.Direction.TheVariants as ways
use Rattle.theory_connection.specs.Pair.{Move, AddGlobal}
use Rattle.program_socket.specs.Streams.{KnownStream, Connected, Sends}
use Rattle.program_socket.specs.Playing.{Accepts, SocketStep, Call, ClientTurn, ServerTurn, PlaysOver}
use Rattle.program_socket.specs.Socket.{Ends}

-- two lists of parts, one after the other
pub plays_on : {C S : Type 0} (c : KnownStream C) (s : KnownStream S) (parts others : List SocketStep)
    (first middle last : Connected C S)
    → PlaysOver c s parts first middle → PlaysOver c s others middle last → PlaysOver c s (parts ++ others) first last
plays_on {C = C} {S = S} c s [] others first middle last one two =
    subst (λ (x : Connected C S). PlaysOver c s others x last) (sym one) two
plays_on c s (part ∷ parts) others first middle last (next, part_played, one) two =
    (next, part_played, plays_on c s parts others next middle last one two)

pub plays_then : {C S X E : Type 0} (c : KnownStream C) (s : KnownStream S) (result : Result X E)
    (parts others : List SocketStep)
    (first middle last : Connected C S)
    → PlaysOver c s parts first middle → OnOk result (PlaysOver c s others middle last)
    → OnOk result (PlaysOver c s (parts ++ others) first last)
plays_then c s (Ok x) parts others first middle last one two = plays_on c s parts others first middle last one two
plays_then c s (Err e) parts others first middle last one two = tt

-- one call is a part
pub plays_call : {C S : Type 0} (c : KnownStream C) (s : KnownStream S) (move other : Move) (first last : Connected C S)
    → move ≡ other → Accepts move first last → PlaysOver c s (Call other ∷ []) first last
plays_call c s move other first last same a = (last, subst (λ (m : Move). Accepts m first last) same a, refl)

pub ends_call : {C S X E : Type 0} (c : KnownStream C) (s : KnownStream S) (result : Result X E) (move other : Move)
    (first last : Connected C S) → move ≡ other
    → OnOk result (Accepts move first last) → OnOk result (PlaysOver c s (Call other ∷ []) first last)
ends_call c s (Ok x) move other first last same a = plays_call c s move other first last same a
ends_call c s (Err e) move other first last same a = tt

abbrev adds_global : ℕ → Iface → Move
adds_global version iface = AddGlobal iface version

-- an interface that was found by its name
pub global_named : (named found : Iface) (version : ℕ) → named ≡ found
    → adds_global version found ≡ adds_global version named
global_named named found version same = ap (adds_global version) (sym same)

-- ---- a turn

abbrev pub over : {C S : Type 0} → client.State → server.State → List Piece → C → S → Connected C S
over c s pieces client_stream server_stream = record {
  pair = record { client = c; server = s; recording = pieces; ended_at = None };
  client_stream = client_stream;
  server_stream = server_stream;
}

pub client_turn : {C S X E : Type 0} (c : KnownStream C) (s : KnownStream S) (result : Result X E)
    (from from' : client.State)
    (to to' : server.State) (pieces pieces' : List Piece) (writer writer' : C) (reader reader' : S)
    (count : ℕ) (bytes recorded delivered : List ℕ) → Sends from.core (c.taken writer) from'.core (c.taken writer')
    → count ≡ length (waiting_bytes from.core.outbox) → from' ≡ client.with_core from from'.core
    → length bytes ≡ count → Consumes (s.left reader) (s.left reader') bytes → recorded ≡ bytes
    → pieces' ≡ pieces ++ passed ways.ToServer recorded 0 → delivered ≡ bytes
    → OnOk result ((reports : List requests.Report)
    × Reads server_streams.server_reading (with_arrivals server_streams.server_reading to delivered []) reports None
    to')
    → OnOk result (PlaysOver c s (ClientTurn ∷ []) (over from to pieces writer reader)
    (over from' to' pieces' writer' reader'))
client_turn c s (Ok x) from from' to to' pieces pieces' writer writer' reader reader' count bytes recorded delivered
    sends counted others as_many given same_recorded added same_delivered (reports, read) =
    let all = added ∙ ap (λ (xs : List ℕ). pieces ++ passed ways.ToServer xs 0) same_recorded in (
      over from' to' pieces' writer' reader',
      record {
        bytes = bytes;
        sends = sends;
        receives = record {
          as_many = as_many ∙ counted;
          given = given;
          reports = reports;
          read = subst (λ (xs : List ℕ). Reads server_streams.server_reading
              (with_arrivals server_streams.server_reading to xs []) reports None to') same_delivered read;
        };
        leaves = λ i. record { client = others i; server = to'; recording = all i; ended_at = None };
      },
      refl,
    )
client_turn c s (Err e) from from' to to' pieces pieces' writer writer' reader reader' count bytes recorded delivered
    sends counted others as_many given same_recorded added same_delivered read = tt

pub server_turn : {C S X E : Type 0} (c : KnownStream C) (s : KnownStream S) (result : Result X E)
    (from from' : server.State)
    (to to' : client.State) (pieces pieces' : List Piece) (writer writer' : S) (reader reader' : C)
    (count : ℕ) (bytes recorded delivered : List ℕ) → Sends from.core (s.taken writer) from'.core (s.taken writer')
    → count ≡ length (waiting_bytes from.core.outbox) → from' ≡ server.with_core from from'.core
    → length bytes ≡ count → Consumes (c.left reader) (c.left reader') bytes → recorded ≡ bytes
    → pieces' ≡ pieces ++ passed ways.ToClient recorded 0 → delivered ≡ bytes
    → OnOk result ((reports : List events.Report)
    × Reads client_streams.client_reading (with_arrivals client_streams.client_reading to delivered []) reports None
    to')
    → OnOk result (PlaysOver c s (ServerTurn ∷ []) (over to from pieces reader writer)
    (over to' from' pieces' reader' writer'))
server_turn c s (Ok x) from from' to to' pieces pieces' writer writer' reader reader' count bytes recorded delivered
    sends counted others as_many given same_recorded added same_delivered (reports, read) =
    let all = added ∙ ap (λ (xs : List ℕ). pieces ++ passed ways.ToClient xs 0) same_recorded in (
      over to' from' pieces' reader' writer',
      record {
        bytes = bytes;
        sends = sends;
        receives = record {
          as_many = as_many ∙ counted;
          given = given;
          reports = reports;
          read = subst (λ (xs : List ℕ). Reads client_streams.client_reading
              (with_arrivals client_streams.client_reading to xs []) reports None to') same_delivered read;
        };
        leaves = λ i. record { client = to'; server = others i; recording = all i; ended_at = None };
      },
      refl,
    )
server_turn c s (Err e) from from' to to' pieces pieces' writer writer' reader reader' count bytes recorded delivered
    sends counted others as_many given same_recorded added same_delivered read = tt

-- ---- the end

-- the ends were found to have the same objects
pub ends_agreeing : {C S : Type 0} (c : KnownStream C) (s : KnownStream S) (tables : List Interface) (client_stream : C)
    (server_stream : S) (pieces : List Piece) (agree : Bool) (objects : ℕ)
    → agree ≡ true → Ends c s tables client_stream server_stream pieces agree objects
    → Ends c s tables client_stream server_stream pieces true objects
ends_agreeing c s tables client_stream server_stream pieces agree objects same ends =
    subst (λ (b : Bool). Ends c s tables client_stream server_stream pieces b objects) same ends
