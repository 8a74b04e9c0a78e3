-- The number by which a writer's answer is known outside.
pub mod Answers
