-- How far a session was judged, message by message and piece by piece.
use Rattle.std.specs.Prelude.{◌≡◌, ℕ, ◌+◌, ◌*◌, ◌^◌, ◌<◌, ◌≤◌, Bool, true, false, suc, List}
use Rattle.std.specs.Prelude.{◌++◌, map, length, drop, take, slice_get, Some, None}
use Rattle.std.specs.declared.result.Result.TheVariants.{Ok, Err}
use Rattle.wl_sigs.specs.Tables.{Interface}
use Rattle.wl_message.specs.Cut.{is_size}
use Rattle.wl_objects.specs.declared.error.Fault.{Fault}
use Rattle.wl_recording.specs.declared.piece.Direction.{Direction}
use Rattle.wl_recording.specs.declared.piece.Direction.TheVariants.{ToServer, ToClient}
use Rattle.wl_recording.specs.declared.piece.Appended.{Appended}
use Rattle.wl_recording.specs.Piece.{IsAppended, Piece}
use Rattle.wl_check.specs.declared.session_state.Numbers.{Numbers}
use Rattle.wl_check.specs.declared.session_state.SessionState.{SessionState}
use Rattle.wl_check.specs.declared.session_state.SessionStatus.{SessionStatus}
use Rattle.wl_check.specs.declared.session_state.SessionStatus.TheVariants.{Open, Ended, Broken}
use Rattle.wl_check.specs.declared.frames.FramedMessage.{FramedMessage}
use Rattle.wl_check.specs.declared.frames.Stream.{Stream}
use Rattle.wl_check.specs.declared.progress.Progress.{Progress}
use Rattle.wl_check.specs.declared.progress.Tally.{Tally}
use Rattle.wl_check.specs.declared.scanning.Scanner.{Scanner}
use Rattle.wl_check.specs.Changes.{Call}
use Rattle.wl_check.specs.Deserved.{TellsUndeserved}
use Rattle.wl_check.specs.Held.{Held}
use Rattle.wl_check.specs.Merged.{Cutting, cutting, cut, framed, merged, same_direction}
use Rattle.wl_check.specs.Merged.{stream_of, piece_tokens}
use Rattle.wl_check.specs.Places.{known, IsFirst}
use Rattle.wl_check.specs.Seen.{known_in, no_tally, tally_in}
use Rattle.wl_check.specs.Session.{Session, ArePassed, Judged, count_in, changes_at, end_after}
use Rattle.wl_check.specs.Session.{ends_session, messages, session_of}

-- ---- the messages before a place

-- the counts of a direction before a message
pub record IsTallied (s : Session) (k : ℕ) (d : Direction) (t : Tally) : Type 0 where
  pub count_is : t.count ≡ count_in d (take k s.frames)
  pub end_is : t.end ≡ end_after d 0 (take k s.frames)
  pub within : t.end ≤ length (s.streams d)

-- a place of the session: what is known there, and the counts before it
pub record IsAt {A : Type 0} (tables : List Interface) (s : Session) (k : ℕ) (p : Progress A)
    : Type 0 where
  pub known_is : known_in p.known ≡ known (changes_at tables (messages tables s)) (suc k)
  pub to_server : IsTallied s k ToServer p.to_server
  pub to_client : IsTallied s k ToClient p.to_client
  pub taken_to_server : p.known.taken_to_server ≤ k * 2 ^ 64
  pub taken_to_client : p.known.taken_to_client ≤ k * 2 ^ 64

-- ---- messages that were judged

abbrev pub is_going : SessionStatus → Bool
is_going Open = true
is_going Ended = false
is_going (Broken frame fault) = false

-- the last of k messages is the first wl_display.error, and none of them breaks a rule
pub record IsEnd (ms : List Judged) (k : ℕ) : Type 0 where
  pub before : ℕ
  pub last : k ≡ before + 1
  pub call : Call
  pub is : slice_get ms before ≡ Some (Ok call)
  pub ends : ends_session (Ok call) ≡ true
  pub passed : ArePassed ms before

-- this message follows k messages, and is the first that breaks a rule
pub record IsFault (tables : List Interface) (s : Session) (k : ℕ) (frame : FramedMessage)
    (fault : Fault)
    : Type 0 where
  pub stands : slice_get s.frames k ≡ Some frame
  pub is : slice_get (messages tables s) k ≡ Some (Err fault)
  pub passed : ArePassed (messages tables s) k

abbrev pub StatusIs : List Interface → Session → ℕ → SessionStatus → Type 0
StatusIs tables s k Open = ArePassed (messages tables s) k
StatusIs tables s k Ended = IsEnd (messages tables s) k
StatusIs tables s k (Broken frame fault) = IsFault tables s k frame fault

-- where the last counted message of a direction ends
abbrev pub end_in : {A : Type 0} → SessionState A → Direction → ℕ
end_in c d = (tally_in c.progress d).end

-- nothing was counted in the other direction
abbrev pub OthersStay : {A : Type 0} → Direction → SessionState A → SessionState A → Type 0
OthersStay d before after =
    (other : Direction) → same_direction d other ≡ false → end_in after other ≡ end_in before other

-- The first messages of the session were judged, and this is the resulting state.
pub record IsJudged {A : Type 0} (tables : List Interface) (s : Session)
    (c : SessionState A)
    : Type 0 where
  pub at : IsAt tables s c.count c.progress
  pub status : StatusIs tables s c.count c.status
  pub undeserved : TellsUndeserved tables s c.count c.undeserved
  pub within : c.count ≤ length s.frames
  pub few : c.count * 8 ≤ c.progress.to_server.end + c.progress.to_client.end
  pub small_to_server : c.progress.to_server.end < 2 ^ 64
  pub small_to_client : c.progress.to_client.end < 2 ^ 64

-- before the first message
pub record IsUnread {A : Type 0} (c : SessionState A) : Type 0 where
  pub known : IsFirst (known_in c.progress.known)
  pub to_server : c.progress.to_server ≡ no_tally
  pub to_client : c.progress.to_client ≡ no_tally
  pub taken_to_server : c.progress.known.taken_to_server ≡ 0
  pub taken_to_client : c.progress.known.taken_to_client ≡ 0
  pub count : c.count ≡ 0
  pub status : c.status ≡ Open
  pub undeserved : c.undeserved ≡ None

-- This frame is the session's next, and these are the bytes of its direction from there on.
pub record Comes {A : Type 0} (limit : ℕ) (tables : List Interface) (s : Session)
    (c : SessionState A) (frame : FramedMessage) (rest : List ℕ) : Type 0 where
  pub limit_is : s.limit ≡ limit
  pub going : is_going c.status ≡ true
  pub judged : IsJudged tables s c
  pub stands : slice_get s.frames c.count ≡ Some frame
  pub here : frame.start ≡ end_in c frame.direction
  pub rest_is : drop frame.start (s.streams frame.direction) ≡ rest
  pub small : length (s.streams frame.direction) < 2 ^ 64
  pub header : 8 ≤ length rest
  pub whole : is_size limit frame.size ≡ true → frame.size ≤ length rest

-- the message kept the rules, and the session goes on
pub record WentOn {A : Type 0} (limit : ℕ) (frame : FramedMessage) (before after : SessionState A)
    : Type 0 where
  pub size : is_size limit frame.size ≡ true
  pub count : after.count ≡ before.count + 1
  pub end : end_in after frame.direction ≡ frame.start + frame.size

-- the messages of a direction after its last judged one
abbrev pub cut_from : {A : Type 0} → (limit : ℕ) → Session → SessionState A → Direction → Cutting
cut_from limit s c d = cutting limit (length (s.streams d)) (s.streams d) (end_in c d)

-- After the judged messages, the session has exactly those that are cut off these bytes.
pub record CutFollows {A : Type 0} (limit : ℕ) (tables : List Interface) (s : Session)
    (c : SessionState A) (d : Direction) (tokens : ℕ) (rest : List ℕ) : Type 0 where
  pub limit_is : s.limit ≡ limit
  pub going : is_going c.status ≡ true
  pub judged : IsJudged tables s c
  pub rest_is : drop (end_in c d) (s.streams d) ≡ rest
  pub small : length (s.streams d) < 2 ^ 64
  pub frames : drop c.count s.frames ≡ map (framed d tokens) (cut_from limit s c d).spans
  pub place : (cut_from limit s c d).place ≡ (cut limit (s.streams d)).place
  pub has_bad_size : (cut_from limit s c d).has_bad_size ≡ (cut limit (s.streams d)).has_bad_size

-- these are all bytes after the last message of a stream, and there is no bad size
pub record IsLeftOfStream (limit : ℕ) (stream : List ℕ) (end : ℕ) (rest : List ℕ) : Type 0 where
  pub rest_is : drop end stream ≡ rest
  pub place : end ≡ (cut limit stream).place
  pub has_bad_size : (cut limit stream).has_bad_size ≡ false

-- All messages of the session were judged, unless one ended it or broke a rule.
pub record AllJudged {A : Type 0} (limit : ℕ) (tables : List Interface) (s : Session)
    (c : SessionState A) (d : Direction) (rest : List ℕ) : Type 0 where
  pub judged : IsJudged tables s c
  pub all : is_going c.status ≡ true → length s.frames ≡ c.count
  pub left : is_going c.status ≡ true → IsLeftOfStream limit (s.streams d) (end_in c d) rest

-- ---- pieces

-- What these pieces brought in one direction.
pub record IsStream {A : Type 0} (limit : ℕ) (d : Direction) (ps : List Piece) (c : SessionState A)
    (stream : Stream A) : Type 0 where
  pub len : stream.len ≡ length (stream_of d ps)
  pub tokens : stream.tokens ≡ piece_tokens d ps
  pub left : is_going c.status ≡ true → IsLeftOfStream limit (stream_of d ps) (end_in c d)
      stream.bytes

-- The messages of these pieces were judged, and this is what the pieces brought in one direction.
pub record JudgedAlong {A : Type 0} (limit : ℕ) (tables : List Interface) (d : Direction)
    (ps : List Piece) (c : SessionState A) (brought : Stream A) : Type 0 where
  pub judged : IsJudged tables (session_of limit ps) c
  pub all : is_going c.status ≡ true → length (merged limit ps) ≡ c.count
  pub stream : IsStream limit d ps c brought

-- and in both directions
pub record AfterPieces {A : Type 0} (limit : ℕ) (tables : List Interface) (ps : List Piece)
    (s : Scanner A) : Type 0 where
  pub judged : IsJudged tables (session_of limit ps) s.state
  pub all : is_going s.state.status ≡ true → length (merged limit ps) ≡ s.state.count
  pub to_server : IsStream limit ToServer ps s.state s.to_server
  pub to_client : IsStream limit ToClient ps s.state s.to_client

-- These pieces were judged, and one more has come: its bytes are appended to those left in its
-- direction, but it is not counted yet.
pub record HasCome {A : Type 0} (limit : ℕ) (tables : List Interface) (ps : List Piece) (p : Piece)
    (appended : Appended) (c : SessionState A) (stream : Stream A)
    : Type 0 where
  pub before : Stream A
  pub along : JudgedAlong limit tables p.direction ps c before
  pub bytes : stream.bytes ≡ before.bytes ++ p.bytes
  pub len : stream.len ≡ before.len
  pub tokens : stream.tokens ≡ before.tokens
  pub direction_is : appended.direction ≡ p.direction
  pub len_is : appended.len ≡ length p.bytes
  pub tokens_are : appended.tokens ≡ p.tokens

-- the same for both directions
pub record IsReady {A : Type 0} (limit : ℕ) (tables : List Interface) (ps : List Piece) (p : Piece)
    (appended : Appended) (s : Scanner A) : Type 0 where
  pub before : Scanner A
  pub after : AfterPieces limit tables ps before
  pub state : s.state ≡ before.state
  pub len_to_server : s.to_server.len ≡ before.to_server.len
  pub len_to_client : s.to_client.len ≡ before.to_client.len
  pub tokens_to_server : s.to_server.tokens ≡ before.to_server.tokens
  pub tokens_to_client : s.to_client.tokens ≡ before.to_client.tokens
  pub appended_is : IsAppended p appended before.to_server.bytes s.to_server.bytes
      before.to_client.bytes s.to_client.bytes

-- ---- restoring a state when memory runs out

-- all of a state except what is held
abbrev pub numbers_in : {A : Type 0} → SessionState A → Numbers
numbers_in c = record {
  used = c.progress.known.used;
  server_used = c.progress.known.server_used;
  taken_to_server = c.progress.known.taken_to_server;
  taken_to_client = c.progress.known.taken_to_client;
  to_server = c.progress.to_server;
  to_client = c.progress.to_client;
  count = c.count;
  status = c.status;
  undeserved = c.undeserved;
}

-- the state with what is held, and the numbers, replaced by these
abbrev pub gone_back : {A : Type 0} → Held → Numbers → SessionState A → SessionState A
gone_back held n c = record c {
  progress = record {
    known = record {
      held = held;
      used = n.used;
      server_used = n.server_used;
      taken_to_server = n.taken_to_server;
      taken_to_client = n.taken_to_client;
    };
    to_server = n.to_server;
    to_client = n.to_client;
  };
  count = n.count;
  status = n.status;
  undeserved = n.undeserved;
}
