-- A piece: its bytes are appended to those of its direction, then its messages are judged.
use Rattle.std.proofs.Common.{◌≡◌, ℕ, true, false, List, [], ◌∷◌, ◌++◌, refl, sym, ap, subst, ◌∙◌, append-nil}
use Rattle.std.specs.Prelude.{Option, Some, None, IfNone, MatchOption, OnOk}
use Rattle.std.specs.declared.result.Result.{Result}
use Rattle.std.specs.declared.result.Result.TheVariants.{Ok, Err}
use Rattle.wl_sigs.specs.Tables.{Interface}
use Rattle.wl_recording.specs.declared.piece.Appended.{Appended}
use Rattle.wl_recording.specs.declared.piece.Direction.{Direction}
use Rattle.wl_recording.specs.declared.piece.Direction.TheVariants.{ToServer, ToClient}
use Rattle.wl_recording.specs.Piece.{Piece, own_bytes}
use Rattle.wl_check.specs.declared.session_state.SessionState.{SessionState}
use Rattle.wl_check.specs.declared.frames.Stream.{Stream}
use Rattle.wl_check.specs.declared.scanning.Scanner.{Scanner}
use Rattle.wl_check.specs.SessionState.{is_going, end_in, JudgedAlong, HasCome, AfterPieces, IsReady, IsStream}
use Rattle.wl_check.specs.Merged.{same_direction}
use Rattle.wl_check.specs.Printed.{PrintsOn, PrintsPiece}
use Rattle.wl_check.specs.Session.{session_of}
use Rattle.wl_check.specs.declared.session_state.Output.{Output}
use Rattle.wl_check.proofs.PrintedSoFar.{prints_piece}
use Rattle.wl_check.proofs.SessionByPiece.{after_client, after_server, along_client, along_server}

abbrev scanner : {A : Type 0} → SessionState A → Stream A → Stream A → Scanner A
scanner c server client = record { state = c; to_server = server; to_client = client }

-- a stream with the bytes and the counts of another
pub record AreSameBytes {A : Type 0} (stream copy : Stream A) : Type 0 where
  pub bytes : copy.bytes ≡ stream.bytes
  pub len : copy.len ≡ stream.len
  pub tokens : copy.tokens ≡ stream.tokens

same_stream : {A : Type 0} (s : Stream A) → AreSameBytes s s
same_stream s = record { bytes = refl; len = refl; tokens = refl }

stream_same : {A : Type 0} (limit : ℕ) (d : Direction) (ps : List Piece) (c : SessionState A) (s t : Stream A)
    → AreSameBytes s t → IsStream limit d ps c s → IsStream limit d ps c t
stream_same limit d ps c s t same h = record {
  len = same.len ∙ h.len;
  tokens = same.tokens ∙ h.tokens;
  left = λ going. (let x = h.left going in record {
    rest_is = x.rest_is ∙ sym same.bytes;
    place = x.place;
    has_bad_size = x.has_bad_size;
  });
}

-- without a new piece nothing changes
pub still_after : {A : Type 0} (limit : ℕ) (tables : List Interface) (ps : List Piece) (c : SessionState A)
    (s t x y : Stream A) → AreSameBytes s t → AreSameBytes x y
    → AfterPieces limit tables ps (scanner c s x) → AfterPieces limit tables ps (scanner c t y)
still_after limit tables ps c s t x y server client h = record {
  judged = h.judged;
  all = h.all;
  to_server = stream_same limit ToServer ps c s t server h.to_server;
  to_client = stream_same limit ToClient ps c x y client h.to_client;
}

pub when_none : {X P : Type 0} (found : Option X) → ((x : X) → found ≡ Some x → ⊥) → IfNone found P → P
when_none None never h = h
when_none (Some x) never h = absurd (never x refl)

pub match_none : {X P : Type 0} (Q : X → Type 0) (found : Option X) → ((x : X) → found ≡ Some x → ⊥)
    → MatchOption found P Q → P
match_none Q None never h = h
match_none Q (Some x) never h = absurd (never x refl)

pub come_server : {A : Type 0} (limit : ℕ) (tables : List Interface) (ps : List Piece) (p : Piece)
    (a : Appended) (s : Scanner A) → p.direction ≡ ToServer
    → IsReady limit tables ps p a s → HasCome limit tables ps p a s.state s.to_server
come_server {A = A} limit tables ps p a s is r = record {
  before = r.before.to_server;
  along = subst (λ (c : SessionState A). JudgedAlong limit tables p.direction ps c r.before.to_server) (sym r.state)
      (along_server limit tables ps p.direction r.before is r.after);
  bytes = r.appended_is.to_server ∙ ap (λ (d : Direction). r.before.to_server.bytes ++ own_bytes ToServer d p.bytes) is;
  len = r.len_to_server;
  tokens = r.tokens_to_server;
  direction_is = r.appended_is.direction;
  len_is = r.appended_is.len;
  tokens_are = r.appended_is.tokens;
}

pub come_client : {A : Type 0} (limit : ℕ) (tables : List Interface) (ps : List Piece) (p : Piece)
    (a : Appended) (s : Scanner A) → p.direction ≡ ToClient
    → IsReady limit tables ps p a s → HasCome limit tables ps p a s.state s.to_client
come_client {A = A} limit tables ps p a s is r = record {
  before = r.before.to_client;
  along = subst (λ (c : SessionState A). JudgedAlong limit tables p.direction ps c r.before.to_client) (sym r.state)
      (along_client limit tables ps p.direction r.before is r.after);
  bytes = r.appended_is.to_client ∙ ap (λ (d : Direction). r.before.to_client.bytes ++ own_bytes ToClient d p.bytes) is;
  len = r.len_to_client;
  tokens = r.tokens_to_client;
  direction_is = r.appended_is.direction;
  len_is = r.appended_is.len;
  tokens_are = r.appended_is.tokens;
}

-- the same with the values that the code has
pub judged_server : {A E : Type 0} (limit : ℕ) (tables : List Interface) (a : Appended) (s : Scanner A)
    (n : SessionState A) (after : Stream A) (r : Result (Unit {0}) E) → a.direction ≡ ToServer
    → OnOk r ((ps : List Piece) (p : Piece) → HasCome limit tables ps p a s.state s.to_server
    → JudgedAlong limit tables p.direction (ps ++ p ∷ []) n after)
    → OnOk r (is_going n.status ≡ true → is_going s.state.status ≡ true)
    → OnOk r ((d : Direction) → same_direction a.direction d ≡ false → end_in n d ≡ end_in s.state d)
    → OnOk r ((ps : List Piece) (p : Piece) → IsReady limit tables ps p a s
    → AfterPieces limit tables (ps ++ p ∷ []) (record { state = n; to_server = after; to_client = s.to_client }))
judged_server {A = A} limit tables a s n after (Ok x) is along going other = λ ps p r.
    let pd : p.direction ≡ ToServer = sym r.appended_is.direction ∙ is in
    let b = r.before in
    let done = after_server limit tables ps p b n after pd r.after
    (λ h. along ps p (come_server limit tables ps p a s pd r))
    (λ on. subst (λ (c : SessionState A). is_going c.status ≡ true) r.state (going on))
    (λ d away. other d (subst (λ (e : Direction). same_direction e d ≡ false) (sym r.appended_is.direction) away)
    ∙ ap (λ (c : SessionState A). end_in c d) r.state) in
    let client : AreSameBytes b.to_client s.to_client = record {
      bytes = r.appended_is.to_client ∙ ap (λ (d : Direction). b.to_client.bytes ++ own_bytes ToClient d p.bytes) pd
          ∙ append-nil b.to_client.bytes;
      len = r.len_to_client;
      tokens = r.tokens_to_client;
    } in
    still_after limit tables (ps ++ p ∷ []) n after after b.to_client s.to_client (same_stream after) client done
judged_server {A = A} limit tables a s n after (Err e) is along going other = tt

pub judged_client : {A E : Type 0} (limit : ℕ) (tables : List Interface) (a : Appended) (s : Scanner A)
    (n : SessionState A) (after : Stream A) (r : Result (Unit {0}) E) → a.direction ≡ ToClient
    → OnOk r ((ps : List Piece) (p : Piece) → HasCome limit tables ps p a s.state s.to_client
    → JudgedAlong limit tables p.direction (ps ++ p ∷ []) n after)
    → OnOk r (is_going n.status ≡ true → is_going s.state.status ≡ true)
    → OnOk r ((d : Direction) → same_direction a.direction d ≡ false → end_in n d ≡ end_in s.state d)
    → OnOk r ((ps : List Piece) (p : Piece) → IsReady limit tables ps p a s
    → AfterPieces limit tables (ps ++ p ∷ []) (record { state = n; to_server = s.to_server; to_client = after }))
judged_client {A = A} limit tables a s n after (Ok x) is along going other = λ ps p r.
    let pd : p.direction ≡ ToClient = sym r.appended_is.direction ∙ is in
    let b = r.before in
    let done = after_client limit tables ps p b n after pd r.after
    (λ h. along ps p (come_client limit tables ps p a s pd r))
    (λ on. subst (λ (c : SessionState A). is_going c.status ≡ true) r.state (going on))
    (λ d away. other d (subst (λ (e : Direction). same_direction e d ≡ false) (sym r.appended_is.direction) away)
    ∙ ap (λ (c : SessionState A). end_in c d) r.state) in
    let server : AreSameBytes b.to_server s.to_server = record {
      bytes = r.appended_is.to_server ∙ ap (λ (d : Direction). b.to_server.bytes ++ own_bytes ToServer d p.bytes) pd
          ∙ append-nil b.to_server.bytes;
      len = r.len_to_server;
      tokens = r.tokens_to_server;
    } in
    still_after limit tables (ps ++ p ∷ []) n b.to_server s.to_server after after server (same_stream after) done
judged_client {A = A} limit tables a s n after (Err e) is along going other = tt

-- the output for the piece was written
pub prints_ready : {A E : Type 0} (limit : ℕ) (tables : List Interface) (o : Output) (a : Appended)
    (s t : Scanner A) (old new : List ℕ) (r : Result (Unit {0}) E)
    → OnOk r ((ps : List Piece) (p : Piece) → IsReady limit tables ps p a s
    → AfterPieces limit tables (ps ++ p ∷ []) t)
    → OnOk r ((ps : List Piece) (p : Piece) → IsReady limit tables ps p a s
    → PrintsOn tables (session_of limit (ps ++ p ∷ [])) o s.state.count t.state.count old new)
    → OnOk r ((ps : List Piece) (p : Piece) → IsReady limit tables ps p a s
    → PrintsPiece limit tables o ps p old new)
prints_ready {A = A} limit tables o a s t old new (Ok x) after prints = λ ps p h.
    prints_piece limit tables o ps p h.before t old new h.after (after ps p h)
    (subst (λ (c : SessionState A). PrintsOn tables (session_of limit (ps ++ p ∷ [])) o c.count t.state.count old new)
    h.state (prints ps p h))
prints_ready limit tables o a s t old new (Err e) after prints = tt
