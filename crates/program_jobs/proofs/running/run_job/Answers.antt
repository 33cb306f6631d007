use Rattle.std.proofs.Common.{ℕ, List, [], Option, None, IfOk, OnOk, arith, rules, refl, sym, subst, inl, inr}
use Rattle.std.specs.Prelude.{◌≡◌, ◌⊎◌, IsErr, Result, Ok, Err, map, string_bytes}
use Rattle.std.proofs.lemmas.Result.{IfErr-weaker}
use Rattle.program_arguments.specs.declared.job.Job.{Job}
use Rattle.program_jobs.specs.declared.failure.Failure.{Failure}
use Rattle.program_jobs.specs.declared.failure.Failure.TheVariants.{CannotRead, TooLong, LongRecording, BadLine}
use Rattle.program_jobs.specs.declared.failure.Failure.TheVariants.{BadTablesLine, BreaksRule}
use Rattle.program_jobs.specs.declared.failure.Failure.TheVariants.{CannotWrite, SocketFailed}
use Rattle.program_jobs.specs.declared.failure.Failure.TheVariants.{Memory}
use Rattle.program_jobs.specs.Output.{BindsSocket, IsDone, IsRefused, IsSocketRefusal, NamesFile}
use Rattle.program_jobs.specs.Output.{NamesPath, ReadsFile, Streams, tables_named}
use Rattle.program_jobs.specs.Texts.{Source}
use Rattle.program_jobs.specs.Running.{files, stream, bound, not_bound, alone}
use Rattle.program_jobs.proofs.running.run_job.Goals as goal

-- a session over a socket that prints nothing gives the job's reason
socket_refused : (job : Job) (sources : List Source) (known : Option (List ℕ)) (why : Failure) → BindsSocket job
    → IsSocketRefusal why → IsRefused job sources known why
socket_refused job sources known SocketFailed binds is = binds
socket_refused job sources known Memory binds is = tt
socket_refused job sources known (CannotRead name) binds is = absurd is
socket_refused job sources known TooLong binds is = absurd is
socket_refused job sources known LongRecording binds is = absurd is
socket_refused job sources known (BadLine n) binds is = absurd is
socket_refused job sources known (BadTablesLine file n) binds is = absurd is
socket_refused job sources known (BreaksRule file n rule) binds is = absurd is
socket_refused job sources known CannotWrite binds is = absurd is

-- no failure has the status 0
removed_where_fine : {T X : Type 0} (result : Result T X) (status : ℕ) (removed other : Type 0) → OnOk result removed
    → (IsErr result → ((status ≡ 3) ⊎ (status ≡ 4)) × other) → status ≡ 0 → removed
removed_where_fine (Ok printed) status removed other is refused fine = is
removed_where_fine (Err why) status removed other is refused fine = elim (refused refl).0 [
  | inl three ↦ absurd (omega (arith, three, fine))
  | inr four ↦ absurd (omega (arith, four, fine))
]

-- a demonstration reads no file and binds no socket
pub returns-in-Demo : goal.returns-in-Demo
returns-in-Demo g c = alone _ _ (λ reads. subst (λ (job : Job). ReadsFile job) c.in-Demo.is reads)
    (λ streams. subst (λ (job : Job). Streams job) c.in-Demo.is streams)
    (λ binds. subst (λ (job : Job). BindsSocket job) c.in-Demo.is binds) c.act.ensures.acted

-- a trace or a check reads the files that it names
pub returns-in-Trace : goal.returns-in-Trace
returns-in-Trace g c =
    let reads : ReadsFile c.args.job.now = elim c.in-Trace.is [
      | inl e ↦ subst (λ (job : Job). ReadsFile job) (sym e.1) tt
      | inr e ↦ subst (λ (job : Job). ReadsFile job) (sym e.2) tt
    ] in
    let names : NamesFile c.args.job.now (string_bytes c.in-Trace.file) = elim c.in-Trace.is [
      | inl e ↦ subst (λ (job : Job). NamesFile job (string_bytes c.in-Trace.file)) (sym e.1) refl
      | inr e ↦ subst (λ (job : Job). NamesFile job (string_bytes c.in-Trace.file)) (sym e.2) refl
    ] in
    let words : map string_bytes c.in-Trace.tables.items ≡ tables_named c.args.job.now = elim c.in-Trace.is [
      | inl e ↦ subst (λ (job : Job). map string_bytes c.in-Trace.tables.items ≡ tables_named job) (sym e.1) refl
      | inr e ↦ subst (λ (job : Job). map string_bytes c.in-Trace.tables.items ≡ tables_named job) (sym e.2) refl
    ] in
    files (string_bytes c.in-Trace.file) reads names (rw words at c.run_over_files-in-Trace.ensures)

-- so does a stream
pub returns-in-Stream : goal.returns-in-Stream
returns-in-Stream g c =
    let streams = subst (λ (job : Job). Streams job) (sym c.in-Stream.is) tt in
    let names = subst (λ (job : Job). NamesFile job (string_bytes c.in-Stream.file)) (sym c.in-Stream.is) refl in
    let words = subst (λ (job : Job). map string_bytes c.in-Stream.tables.items ≡ tables_named job)
    (sym c.in-Stream.is) refl in
    stream (string_bytes c.in-Stream.file) streams names (rw words at c.run_over_files.ensures)

-- a socket job plays its session over the socket that was bound
pub returns-in-Ok : goal.returns-in-Ok
returns-in-Ok g c =
    let job_is = sym c.in-Socket.is in
    let names : NamesPath c.args.job.now c.as_str.result.now =
    subst (λ (job : Job). NamesPath job c.as_str.result.now) job_is (sym c.as_str.ensures.value) in
    let binds : BindsSocket c.args.job.now = subst (λ (job : Job). BindsSocket job) job_is tt in
    let done = subst (λ (job : Job). IfOk c.run_over_socket.result (λ o. IsDone job [] None o.text.items o.hint.items o.status))
    job_is c.run_over_socket.ensures.shows in
    let refuses = IfErr-weaker c.run_over_socket.result _ _
    (λ why is. socket_refused c.args.job.now [] None why binds is) c.run_over_socket.ensures.refused in
    let removed = removed_where_fine c.run_over_socket.result c.finish.result _ _ c.run_over_socket.ensures.removed
    c.finish.ensures.refused in
    bound c.as_str.result.now c.in-Ok.bound [] None names (search rules) removed
    (c.finish.ensures.acted c.args.job.now [] None done refuses)

pub returns : goal.returns
returns g c =
    let names : NamesPath c.args.job.now c.as_str.result.now =
    subst (λ (job : Job). NamesPath job c.as_str.result.now) (sym c.in-Socket.is)
    (sym c.as_str.ensures.value) in
    not_bound c.as_str.result.now c.in-Err.error c.of_socket.result names (search rules)
    (search rules) c.report.ensures.status refl c.report.ensures.said
