pub mod CompletedTables
pub mod SameKnown
pub mod SameJudged
pub mod SameMessages
pub mod RaisedTables
pub mod SameVerdict
pub mod CompletedSample
