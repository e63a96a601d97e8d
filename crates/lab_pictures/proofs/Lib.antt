mod WorldCopies
mod DrawnRows
