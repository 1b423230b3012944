-- The laws of a question on words: how it is judged, what the walk of its plan lists, and how it ends.
pub mod QuestionJudged
pub mod Questions
pub mod Endings
